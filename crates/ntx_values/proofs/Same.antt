-- Values that are the same, and nil.
use Rattle.std.proofs.Common.{◌≡◌, ◌≢◌, Bool, true, false, ℤ, ap, sym, ◌∙◌, refl, true≢false}
use Rattle.std.specs.Cmp.{IsEquivalence}
use Rattle.std.proofs.lemmas.Bool.Decides.{Decides-int_eq}
use Rattle.ntx_values.specs.Value.{is_same, is_nil}
use Rattle.ntx_values.specs.declared.value.Value.{Value}
use Rattle.ntx_values.specs.declared.value.Value.TheVariants.{Nil, Int, Text, Table, Function, Prim, Node}
use Rattle.ntx_values.specs.declared.value.Value.TheVariants as value
use Rattle.ntx_values.specs.contracts.value.ValueEq.TheImpl.Laws.{laws-law}

pub same_laws : IsEquivalence is_same
same_laws = laws-law

-- what is the same as an integer is that integer
pub same_as_Int : (x : Value) (n : ℤ) → is_same x (Int n) ≡ true → x ≡ Int n
same_as_Int (Int m) n h = ap Int ((Decides-int_eq m n).0 h)
same_as_Int Nil n h = absurd (true≢false (sym h))
same_as_Int (value.Bool b) n h = absurd (true≢false (sym h))
same_as_Int (Text t) n h = absurd (true≢false (sym h))
same_as_Int (Table t) n h = absurd (true≢false (sym h))
same_as_Int (Function f) n h = absurd (true≢false (sym h))
same_as_Int (Prim p) n h = absurd (true≢false (sym h))
same_as_Int (Node x) n h = absurd (true≢false (sym h))

pub Nil-is_nil : (v : Value) → is_nil v ≡ true → v ≡ Nil
Nil-is_nil Nil h = refl
Nil-is_nil (value.Bool b) h = absurd (true≢false (sym h))
Nil-is_nil (Int n) h = absurd (true≢false (sym h))
Nil-is_nil (Text t) h = absurd (true≢false (sym h))
Nil-is_nil (Table t) h = absurd (true≢false (sym h))
Nil-is_nil (Function f) h = absurd (true≢false (sym h))
Nil-is_nil (Prim p) h = absurd (true≢false (sym h))
Nil-is_nil (Node n) h = absurd (true≢false (sym h))

pub not_nil : (v : Value) → v ≢ Nil → is_nil v ≡ false
not_nil v h = by (is_nil v) refl
  where
    by : (b : Bool) → is_nil v ≡ b → b ≡ false
    by true e = absurd (h (Nil-is_nil v e))
    by false e = refl

pub other_than_nil : (v : Value) → is_nil v ≡ false → v ≢ Nil
other_than_nil v h e = true≢false (sym (ap is_nil e) ∙ h)
