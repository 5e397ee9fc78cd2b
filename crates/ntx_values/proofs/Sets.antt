-- The border of a table after a set.
use Rattle.std.proofs.Common.{◌≡◌, ℕ, zero, suc, ◌+◌, ◌<◌, ◌≤◌, min, Bool, true, false, cond, pos, negsuc, length, Option, Some, None, unwrap_or, refl, ap, sym, ◌∙◌, subst, arith}
use Rattle.std.specs.Map.{lookup}
use Rattle.ntx_values.specs.Value.{is_same, is_nil}
use Rattle.ntx_values.specs.Table.{Entries, item_at, border_of}
use Rattle.ntx_values.specs.inner.Border.{border_start}
use Rattle.ntx_values.specs.declared.value.Value.{Value}
use Rattle.ntx_values.specs.declared.value.Value.TheVariants.{Nil, Int, Text, Table, Function, Prim, Node}
use Rattle.ntx_values.specs.declared.value.Value.TheVariants as value
use Rattle.ntx_values.proofs.Same.{same_as_Int}
use Rattle.ntx_values.proofs.Borders.{border_from-held}

lowered-le : (b : Bool) (border k : ℕ) → cond b (min border k) border ≤ border
lowered-le true border k = omega arith
lowered-le false border k = omega arith

pub start-le : (border : ℕ) (key v : Value) → border_start border key v ≤ border
start-le border (Int (pos (suc k))) v = lowered-le (is_nil v) border k
start-le border (Int (pos zero)) v = omega arith
start-le border (Int (negsuc k)) v = omega arith
start-le border Nil v = omega arith
start-le border (value.Bool b) v = omega arith
start-le border (Text t) v = omega arith
start-le border (Table t) v = omega arith
start-le border (Function f) v = omega arith
start-le border (Prim p) v = omega arith
start-le border (Node n) v = omega arith

-- what is set below the start is not nil
start_at : (border k : ℕ) (v : Value) → k < border_start border (Int (pos (suc k))) v → is_nil v ≡ false
start_at border k v h = by (is_nil v) h
  where
    by : (b : Bool) → k < cond b (min border k) border → b ≡ false
    by true g = let none : ⊥ = omega arith in absurd none
    by false g = refl

-- every number below the start is held after the set
pub held_after : (old new : Entries) (key v : Value) (border k : ℕ) → ((q : Value) → lookup (is_same q) new ≡ cond (is_same key q) (Some v) (lookup (is_same q) old))
    → border ≡ border_of old → k < border_start border key v → is_nil (item_at new (k + 1)) ≡ false
held_after old new key v border k updated is h = by (is_same key (Int (pos (k + 1)))) refl
  where
    there : (b : Bool) → is_same key (Int (pos (k + 1))) ≡ b → is_nil (item_at new (k + 1)) ≡ is_nil (unwrap_or (cond b (Some v) (lookup (is_same (Int (pos (k + 1)))) old)) Nil)
    there b e = ap (λ o. is_nil (unwrap_or o Nil)) (updated (Int (pos (k + 1))) ∙ ap (λ c. cond c (Some v) (lookup (is_same (Int (pos (k + 1)))) old)) e)

    set_here : is_same key (Int (pos (k + 1))) ≡ true → is_nil v ≡ false
    set_here e =
        let next : k + 1 ≡ suc k = omega arith in
        let at = same_as_Int key (pos (k + 1)) e ∙ ap (λ n. Int (pos n)) next in
        start_at border k v (subst (λ x. k < border_start border x v) at h)

    by : (b : Bool) → is_same key (Int (pos (k + 1))) ≡ b → is_nil (item_at new (k + 1)) ≡ false
    by true e = there true e ∙ set_here e
    by false e = there false e ∙ border_from-held old (length old) 0 k (omega arith) (let below = start-le border key v in omega (arith, below, is, h))
