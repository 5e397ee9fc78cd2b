-- The border that is computed is the one number that is held up to and not after.
use Rattle.std.proofs.Common.{◌≡◌, ◌≢◌, ℕ, zero, suc, ◌+◌, ◌<◌, ◌≤◌, ◌⊎◌, inl, inr, Bool, true, false, cond, if◌then◌else◌, List, [], ◌∷◌, length, pos, refl, ap, sym, ◌∙◌, subst, arith, true≢false}
use Rattle.std.proofs.lemmas.Bool.{cases_lt}
use Rattle.std.specs.Map.{lookup}
use Rattle.ntx_values.specs.Value.{is_nil}
use Rattle.ntx_values.specs.Table.{Entries, item_at, border_from, border_of}

absurd_lt : {A : Type 0} (m n : ℕ) → m < n → n ≤ m → A
absurd_lt m n a b = let none : ⊥ = omega arith in absurd none

pub border_from-le : (es : Entries) (turns n : ℕ) → border_from es turns n ≤ n + turns
border_from-le es zero n = omega arith
border_from-le es (suc turns) n = by (is_nil (item_at es (n + 1))) (border_from-le es turns (n + 1))
  where
    by : (b : Bool) → border_from es turns (n + 1) ≤ n + 1 + turns → cond b n (border_from es turns (n + 1)) ≤ n + suc turns
    by true h = omega arith
    by false h = omega arith

pub border_of-le : (es : Entries) → border_of es ≤ length es
border_of-le es = omega (arith, border_from-le es (length es) 0)

-- each number below the border is held
pub border_from-held : (es : Entries) (turns n k : ℕ) → n ≤ k → k < border_from es turns n → is_nil (item_at es (k + 1)) ≡ false
border_from-held es zero n k low high = absurd_lt k n high low
border_from-held es (suc turns) n k low high = by (is_nil (item_at es (n + 1))) refl high (border_from-held es turns (n + 1) k)
  where
    here : is_nil (item_at es (n + 1)) ≡ false → (n + 1 ≤ k → is_nil (item_at es (k + 1)) ≡ false) → is_nil (item_at es (k + 1)) ≡ false
    here e later =
        elim (cases_lt n k) [
          | inl more ↦ later (omega arith)
          | inr less ↦ let same : n ≡ k = omega arith in subst (λ j. is_nil (item_at es (j + 1)) ≡ false) same e
        ]

    by : (b : Bool) → is_nil (item_at es (n + 1)) ≡ b → k < cond b n (border_from es turns (n + 1)) → (n + 1 ≤ k → k < border_from es turns (n + 1) → is_nil (item_at es (k + 1)) ≡ false)
        → is_nil (item_at es (k + 1)) ≡ false
    by true e h rest = absurd_lt k n h low
    by false e h rest = here e (λ more. rest more h)

-- nothing is held after the border, where it is not the last number looked for
pub border_from-ended : (es : Entries) (turns n : ℕ) → (border_from es turns n ≡ n + turns) ⊎ (is_nil (item_at es (border_from es turns n + 1)) ≡ true)
border_from-ended es zero n = inl (omega arith)
border_from-ended es (suc turns) n = by (is_nil (item_at es (n + 1))) refl (border_from-ended es turns (n + 1))
  where
    by : (b : Bool) → is_nil (item_at es (n + 1)) ≡ b
        → (border_from es turns (n + 1) ≡ n + 1 + turns) ⊎ (is_nil (item_at es (border_from es turns (n + 1) + 1)) ≡ true)
        → (cond b n (border_from es turns (n + 1)) ≡ n + suc turns) ⊎ (is_nil (item_at es (cond b n (border_from es turns (n + 1)) + 1)) ≡ true)
    by true e h = inr e
    by false e (inl last) = inl (omega arith)
    by false e (inr ended) = inr ended

-- A number that is held up to, and not after or as great as may be, is the border.
pub border_from-is : (es : Entries) (turns n m : ℕ) → n ≤ m → m ≤ n + turns → ((k : ℕ) → k < m → is_nil (item_at es (k + 1)) ≡ false)
    → (m ≡ n + turns) ⊎ (is_nil (item_at es (m + 1)) ≡ true) → m ≡ border_from es turns n
border_from-is es zero n m low high held end = omega arith
border_from-is es (suc turns) n m low high held end =
    by (is_nil (item_at es (n + 1))) refl (λ more. border_from-is es turns (n + 1) m more (omega arith) held (shifted end))
  where
    shifted : (m ≡ n + suc turns) ⊎ (is_nil (item_at es (m + 1)) ≡ true) → (m ≡ n + 1 + turns) ⊎ (is_nil (item_at es (m + 1)) ≡ true)
    shifted (inl last) = inl (omega arith)
    shifted (inr ended) = inr ended

    later : is_nil (item_at es (n + 1)) ≡ false → (m ≡ n + suc turns) ⊎ (is_nil (item_at es (m + 1)) ≡ true) → n + 1 ≤ m
    later e (inl last) = omega arith
    later e (inr ended) =
        elim (cases_lt n m) [
          | inl more ↦ omega arith
          | inr less ↦
              let same : n ≡ m = omega arith in
              absurd (true≢false (sym ended ∙ sym (ap (λ j. is_nil (item_at es (j + 1))) same) ∙ e))
        ]

    by : (b : Bool) → is_nil (item_at es (n + 1)) ≡ b → (n + 1 ≤ m → m ≡ border_from es turns (n + 1)) → m ≡ cond b n (border_from es turns (n + 1))
    by true e rest =
        elim (cases_lt n m) [
          | inl more ↦ absurd (true≢false (sym e ∙ held n more))
          | inr less ↦ omega arith
        ]
    by false e rest = rest (later e end)

pub border_of-is : (es : Entries) (m : ℕ) → m ≤ length es → ((k : ℕ) → k < m → is_nil (item_at es (k + 1)) ≡ false)
    → (length es ≤ m) ⊎ (is_nil (item_at es (m + 1)) ≡ true) → m ≡ border_of es
border_of-is es m high held end = border_from-is es (length es) 0 m (omega arith) (omega arith) held (last end)
  where
    last : (length es ≤ m) ⊎ (is_nil (item_at es (m + 1)) ≡ true) → (m ≡ 0 + length es) ⊎ (is_nil (item_at es (m + 1)) ≡ true)
    last (inl most) = inl (omega arith)
    last (inr ended) = inr ended
