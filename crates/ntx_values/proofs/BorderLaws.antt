-- A table has exactly one border, since no more numbers are held than it has keys.
use Rattle.std.proofs.Common.{◌≡◌, ◌≢◌, ℕ, zero, suc, ◌+◌, ◌<◌, ◌≤◌, ◌⊎◌, inl, inr, Bool, true, false, ◌||◌, ℤ, pos, List, [], ◌∷◌, length, Option, Some, None, unwrap_or, refl, ap, sym, ◌∙◌, subst, arith, true≢false}
use Rattle.std.specs.Prelude.{IsSome, unsigned_abs}
use Rattle.std.proofs.lemmas.Bool.{cases_lt}
use Rattle.std.specs.Ordering.{int_eq}
use Rattle.std.specs.List.{IsDistinct, AllByRecursion, list_any}
use Rattle.std.specs.Map.{lookup}
use Rattle.std.proofs.lemmas.Bool.Decides.{Decides-int_eq}
use Rattle.std.proofs.lemmas.Map.Keys.{IsDistinct-cons}
use Rattle.std.proofs.lemmas.Map.Steps.{length-le_from_keys}
use Rattle.ntx_values.specs.Value.{is_same, is_nil}
use Rattle.ntx_values.specs.Table.{Entries, item_at, IsBorder, border_of}
use Rattle.ntx_values.specs.declared.value.Value.{Value}
use Rattle.ntx_values.specs.declared.value.Value.TheVariants.{Nil, Int}
use Rattle.ntx_values.proofs.Same.{same_laws, same_as_Int, Nil-is_nil, not_nil, other_than_nil}
use Rattle.ntx_values.proofs.Borders.{border_from-held, border_from-ended, border_of-is}

-- the keys m to 1
numbers : ℕ → List Value
numbers zero = []
numbers (suc m) = Int (pos (suc m)) ∷ numbers m

length-numbers : (m : ℕ) → length (numbers m) ≡ m
unfolding numbers
length-numbers zero = refl
length-numbers (suc m) = ap suc (length-numbers m)

other_number : (a b : ℕ) → b < a → is_same (Int (pos a)) (Int (pos b)) ≡ false
other_number a b less = by (int_eq (pos a) (pos b)) refl
  where
    by : (r : Bool) → int_eq (pos a) (pos b) ≡ r → r ≡ false
    by true e =
        let same : a ≡ b = ap unsigned_abs ((Decides-int_eq (pos a) (pos b)).0 e) in
        let none : ⊥ = omega arith in
        absurd none
    by false e = refl

above : (m n : ℕ) → m ≤ n → AllByRecursion (λ y. is_same (Int (pos (suc n))) y ≡ false) (numbers m)
unfolding numbers
above zero n h = tt
above (suc m) n h = (other_number (suc n) (suc m) (omega arith), above m n (omega arith))

distinct-numbers : (m : ℕ) → IsDistinct is_same (numbers m)
unfolding numbers IsDistinct
distinct-numbers zero = tt
distinct-numbers (suc m) = IsDistinct-cons is_same (Int (pos (suc m))) (numbers m) (above m m (omega arith)) (distinct-numbers m)

abbrev AreHeld : Entries → ℕ → Type 0
AreHeld es m = (k : ℕ) → k < m → is_nil (item_at es (k + 1)) ≡ false

some_at : (es : Entries) (m : ℕ) → is_nil (item_at es (m + 1)) ≡ false → IsSome (lookup (is_same (Int (pos (suc m)))) es)
some_at es m h =
    let next : m + 1 ≡ suc m = omega arith in
    by (lookup (is_same (Int (pos (suc m)))) es) (subst (λ n. is_nil (item_at es n) ≡ false) next h)
  where
    by : (o : Option Value) → is_nil (unwrap_or o Nil) ≡ false → IsSome o
    by None e = absurd (true≢false e)
    by (Some v) e = refl

among : (es : Entries) (m : ℕ) (q : Value) → AreHeld es m → list_any (is_same q) (numbers m) ≡ true → IsSome (lookup (is_same q) es)
unfolding numbers
among es zero q held h = absurd (true≢false (sym h))
among es (suc m) q held h = by (is_same q (Int (pos (suc m)))) refl h (among es m q (λ k less. held k (omega arith)))
  where
    by : (r : Bool) → is_same q (Int (pos (suc m))) ≡ r → (r || list_any (is_same q) (numbers m)) ≡ true → (list_any (is_same q) (numbers m) ≡ true → IsSome (lookup (is_same q) es))
        → IsSome (lookup (is_same q) es)
    by true e g rest = subst (λ x. IsSome (lookup (is_same x) es)) (sym (same_as_Int q (pos (suc m)) e)) (some_at es m (held m (omega arith)))
    by false e g rest = rest g

-- no more numbers are held than there are keys
pub held-le : (es : Entries) (m : ℕ) → AreHeld es m → m ≤ length es
held-le es m held = omega (arith, length-le_from_keys same_laws (numbers m) es (distinct-numbers m) (λ q. among es m q held), length-numbers m)

pub border_is : (es : Entries) → IsBorder es (border_of es)
border_is es =
    record {
      held = λ k less. other_than_nil (item_at es (k + 1)) (border_from-held es (length es) 0 k (omega arith) less);
      ended = Nil-is_nil (item_at es (border_of es + 1)) (last (border_from-ended es (length es) 0));
    }
  where
    more : border_of es ≡ 0 + length es → is_nil (item_at es (border_of es + 1)) ≡ false → (k : ℕ) → k < length es + 1 → is_nil (item_at es (k + 1)) ≡ false
    more e none k less =
        elim (cases_lt k (border_of es)) [
          | inl below ↦ border_from-held es (length es) 0 k (omega arith) below
          | inr at ↦ let same : border_of es ≡ k = omega arith in subst (λ n. is_nil (item_at es (n + 1)) ≡ false) same none
        ]

    full : border_of es ≡ 0 + length es → (r : Bool) → is_nil (item_at es (border_of es + 1)) ≡ r → r ≡ true
    full e true h = refl
    full e false h = let none : ⊥ = omega (arith, held-le es (length es + 1) (more e h)) in absurd none

    last : (border_of es ≡ 0 + length es) ⊎ (is_nil (item_at es (border_of es + 1)) ≡ true) → is_nil (item_at es (border_of es + 1)) ≡ true
    last (inl e) = full e (is_nil (item_at es (border_of es + 1))) refl
    last (inr h) = h

pub border_only : (es : Entries) (n : ℕ) → IsBorder es n → n ≡ border_of es
border_only es n b =
    let held : AreHeld es n = λ k less. not_nil (item_at es (k + 1)) (b.held k less) in
    border_of-is es n (held-le es n held) held (inr (ap is_nil b.ended))
