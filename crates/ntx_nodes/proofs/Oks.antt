-- What stands after an Ok that a node gave, and numbers and links that fields take.
use Rattle.std.proofs.Common.{◌≡◌, ℕ, ℤ, pos, negsuc, ◌≤◌, Bool, true, false, cond, ◌&&◌, Some, None, Ok, Err, refl, subst, arith}
use Rattle.std.specs.Prelude.{Option, Result, neg_ℤ, ◌≤ℤ◌, int_le, nat_le}
use Rattle.std.specs.FinMap as map
use Rattle.ntx_num.proofs.Answers.{taken}
use Rattle.ntx_num.specs.Dimension.{IsWithin, is_within}
use Rattle.ntx_nodes.specs.Heap.{Heap}
use Rattle.ntx_nodes.specs.Fields.{number_within, number_to, link}
use Rattle.ntx_nodes.specs.Steps.{of_found, at}
use Rattle.ntx_nodes.specs.declared.node.Node.{Node}
use Rattle.ntx_nodes.specs.declared.field.FieldValue.{FieldValue}
use Rattle.ntx_nodes.specs.declared.field.FieldValue.TheVariants.{Number, Link}
use Rattle.ntx_nodes.specs.declared.trouble.Trouble.{Trouble}
use Rattle.std.proofs.lemmas.Int.{ints}
use Rattle.std.proofs.lemmas.Bool.{leb-true}

pub record Found {A : Type 0} (heap : Heap) (n : ℕ) (f : Node → Result A Trouble) (a : A) : Type 0 where
  pub node : Node
  pub is : map.get heap.nodes n ≡ Some node
  pub gives : f node ≡ Ok a

found_Ok : {A : Type 0} (heap : Heap) (n : ℕ) (f : Node → Result A Trouble) (a : A) (o : Option Node) → map.get heap.nodes n ≡ o → of_found n f o ≡ Ok a → Found heap n f a
found_Ok heap n f a None is e = cc
found_Ok heap n f a (Some node) is e = record { node = node; is = is; gives = e }

pub at_Ok : {A : Type 0} (heap : Heap) (n : ℕ) (f : Node → Result A Trouble) (a : A) → at heap n f ≡ Ok a → Found heap n f a
at_Ok heap n f a e = found_Ok heap n f a (map.get heap.nodes n) refl e

-- ---- numbers and links
both_true : (a b : Bool) → (a && b) ≡ true → (a ≡ true) × (b ≡ true)
both_true true b e = (refl, e)
both_true false b e = cc

in_bounds : (low high x : ℤ) → int_le low x ≡ true → int_le x high ≡ true → (low ≤ℤ x) × (x ≤ℤ high)
in_bounds low high x a b = (grind (arith, ints), grind (arith, ints))

pub number_within_Ok : (most : ℕ) (v : FieldValue) (x : ℤ) → number_within most v ≡ Ok x → IsWithin most x
number_within_Ok most (Number y) x e =
    let t = taken (is_within most y) _ _ x e in
    let b = both_true (int_le (neg_ℤ (pos most)) y) (int_le y (pos most)) t.0 in
    let same : y ≡ x = cc in
    subst (λ z. IsWithin most z) same (in_bounds _ _ y b.0 b.1)
number_within_Ok most (Link to) x e = cc

pub number_to_Ok : (last : ℕ) (v : FieldValue) (n : ℕ) → number_to last v ≡ Ok n → n ≤ last
number_to_Ok last (Number (pos k)) n e =
    let t = taken (nat_le k last) _ _ n e in
    let same : k ≡ n = cc in
    subst (λ m. m ≤ last) same (leb-true k last t.0)
number_to_Ok last (Number (negsuc k)) n e = cc
number_to_Ok last (Link to) n e = cc

pub link_Ok : (v : FieldValue) (to : Option ℕ) → link v ≡ Ok to → v ≡ Link to
link_Ok (Number x) to e = cc
link_Ok (Link from) to e = cc
