-- Keys that are numbers, and what is moved along them.
use Rattle.std.proofs.Common.{◌≡◌, ℕ, ◌+◌, ◌-◌, ◌<◌, ◌≤◌, Bool, true, false, cond, ◌&&◌, pos, negsuc, Option, Some, None, is_some, unwrap_or, length, refl, ap, sym, ◌∙◌, subst, arith, true≢false}
use Rattle.std.specs.Prelude.{nat_eq, nat_le, nat_lt, unsigned_abs}
use Rattle.std.specs.Map.{lookup}
use Rattle.std.specs.Ordering.{int_eq}
use Rattle.std.proofs.lemmas.Bool.Decides.{nat_tests, Decides-int_eq}
use Rattle.ntx_values.specs.Value.{is_same, is_nil}
use Rattle.ntx_values.specs.Table.{Entries, has_key, value_at, item_at, border_of}
use Rattle.ntx_values.specs.declared.value.Value.{Value}
use Rattle.ntx_values.specs.declared.value.Value.TheVariants.{Nil, Int, Text, Table, Function, Prim, Node}
use Rattle.ntx_values.specs.declared.value.Value.TheVariants as value
use Rattle.ntx_values.proofs.Borders.{border_from-held}
use Rattle.ntx_lualib.specs.inner.Moves.{raised, lowered}

pub number_test : (k j : ℕ) → is_same (Int (pos k)) (Int (pos j)) ≡ nat_eq k j
number_test k j = by (nat_eq k j) refl
  where
    by : (b : Bool) → nat_eq k j ≡ b → is_same (Int (pos k)) (Int (pos j)) ≡ b
    by true e =
        let same : k ≡ j = grind (arith, nat_tests) in
        (Decides-int_eq (pos k) (pos j)).1 (ap pos same)
    by false e = off (int_eq (pos k) (pos j)) refl
      where
        off : (r : Bool) → int_eq (pos k) (pos j) ≡ r → r ≡ false
        off true h =
            let same : k ≡ j = ap unsigned_abs ((Decides-int_eq (pos k) (pos j)).0 h) in
            let on : nat_eq k j ≡ true = grind (arith, nat_tests) in
            absurd (true≢false (sym on ∙ e))
        off false h = refl

-- a number up to the border is a key
pub held_key : (es : Entries) (k : ℕ) → 1 ≤ k → k ≤ border_of es → has_key es (Int (pos k)) ≡ true
held_key es k low high =
    let next : k - 1 + 1 ≡ k = omega arith in
    by (lookup (is_same (Int (pos k))) es) (subst (λ n. is_nil (item_at es n) ≡ false) next (border_from-held es (length es) 0 (k - 1) (omega arith) (omega arith)))
  where
    by : (o : Option Value) → is_nil (unwrap_or o Nil) ≡ false → is_some o ≡ true
    by None h = absurd (true≢false h)
    by (Some v) h = refl

module _ (es : Entries) where
  pub raised_start : (m : ℕ) (q : Value) → value_at es q ≡ raised es m m q
  raised_start m (Int (pos j)) = grind (arith, nat_tests)
  raised_start m (Int (negsuc j)) = refl
  raised_start m Nil = refl
  raised_start m (value.Bool b) = refl
  raised_start m (Text t) = refl
  raised_start m (Table t) = refl
  raised_start m (Function f) = refl
  raised_start m (Prim p) = refl
  raised_start m (Node n) = refl

  pub raised_kept : (k m : ℕ) → raised es k m (Int (pos (k - 1))) ≡ item_at es (k - 1)
  raised_kept k m = grind (arith, nat_tests)

  raised_number : (k m j : ℕ) → 0 < k → k ≤ m
      → cond (nat_eq k j) (item_at es (k - 1)) (cond (nat_lt k j && nat_le j m) (item_at es (j - 1)) (item_at es j)) ≡ cond (nat_lt (k - 1) j && nat_le j m) (item_at es (j - 1)) (item_at es j)
  raised_number k m j low high = grind (arith, nat_tests)

  pub raised_step : (k m : ℕ) → 0 < k → k ≤ m → (q : Value) → cond (is_same (Int (pos k)) q) (item_at es (k - 1)) (raised es k m q) ≡ raised es (k - 1) m q
  raised_step k m low high (Int (pos j)) = ap (λ b. cond b (item_at es (k - 1)) (raised es k m (Int (pos j)))) (number_test k j) ∙ raised_number k m j low high
  raised_step k m low high (Int (negsuc j)) = refl
  raised_step k m low high Nil = refl
  raised_step k m low high (value.Bool b) = refl
  raised_step k m low high (Text t) = refl
  raised_step k m low high (Table t) = refl
  raised_step k m low high (Function f) = refl
  raised_step k m low high (Prim p) = refl
  raised_step k m low high (Node n) = refl

  pub lowered_start : (p : ℕ) (q : Value) → value_at es q ≡ lowered es p p q
  lowered_start p (Int (pos j)) = grind (arith, nat_tests)
  lowered_start p (Int (negsuc j)) = refl
  lowered_start p Nil = refl
  lowered_start p (value.Bool b) = refl
  lowered_start p (Text t) = refl
  lowered_start p (Table t) = refl
  lowered_start p (Function f) = refl
  lowered_start p (Prim x) = refl
  lowered_start p (Node n) = refl

  pub lowered_kept : (p k : ℕ) → lowered es p k (Int (pos (k + 1))) ≡ item_at es (k + 1)
  lowered_kept p k = grind (arith, nat_tests)

  lowered_number : (p k j : ℕ) → p ≤ k
      → cond (nat_eq k j) (item_at es (k + 1)) (cond (nat_le p j && nat_lt j k) (item_at es (j + 1)) (item_at es j)) ≡ cond (nat_le p j && nat_lt j (k + 1)) (item_at es (j + 1)) (item_at es j)
  lowered_number p k j low = grind (arith, nat_tests)

  pub lowered_step : (p k : ℕ) → p ≤ k → (q : Value) → cond (is_same (Int (pos k)) q) (item_at es (k + 1)) (lowered es p k q) ≡ lowered es p (k + 1) q
  lowered_step p k low (Int (pos j)) = ap (λ b. cond b (item_at es (k + 1)) (lowered es p k (Int (pos j)))) (number_test k j) ∙ lowered_number p k j low
  lowered_step p k low (Int (negsuc j)) = refl
  lowered_step p k low Nil = refl
  lowered_step p k low (value.Bool b) = refl
  lowered_step p k low (Text t) = refl
  lowered_step p k low (Table t) = refl
  lowered_step p k low (Function f) = refl
  lowered_step p k low (Prim x) = refl
  lowered_step p k low (Node n) = refl
