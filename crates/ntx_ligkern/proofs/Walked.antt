-- The nodes of a list, one after another, are those that a flat walk reaches.
use Rattle.std.proofs.Common.{◌≡◌, ℕ, zero, suc, ◌<◌, ◌≤◌, ◌-◌, List, [], ◌∷◌, ◌++◌, Some, None, Ok, refl, sym, ◌∙◌, ap, append_assoc, append-nil, arith}
use Rattle.std.specs.Prelude.{Option}
use Rattle.std.specs.Option.{option_and_then}
use Rattle.std.specs.FinMap as fin
use Rattle.ntx_num.specs.Answer.{result_map, result_and_then}
use Rattle.ntx_num.proofs.Answers.{same_Ok, mapped_Ok, went_Ok}
use Rattle.ntx_nodes.specs.Heap.{Heap}
use Rattle.ntx_nodes.specs.Walk.{no_lists, in_turn, entered, enter, node_reached, walk, fuel_of}
use Rattle.ntx_nodes.specs.declared.kind.ListKind.{ListKind}
use Rattle.ntx_nodes.specs.declared.kind.ListKind.TheVariants.{H}
use Rattle.ntx_nodes.specs.declared.kind.Way.TheVariants.{Flat}
use Rattle.ntx_nodes.specs.declared.node.Node.{Node}
use Rattle.ntx_nodes.proofs.Fuel.{passes}
use Rattle.ntx_ligkern.specs.Along.{next_of, first_along, AlongIsTheWalk}

walk_none : (heap : Heap) (fuel : ℕ) (reached : List ℕ) (depth : ℕ) (k : ListKind) → walk heap Flat fuel reached None depth k ≡ Ok reached
walk_none heap zero reached depth k = refl
walk_none heap (suc fuel) reached depth k = refl

-- a flat walk enters no lists
none_entered : (heap : Heap) (fuel : ℕ) (reached : List ℕ) → in_turn (λ before to inner. walk heap Flat fuel before to 1 inner) reached no_lists ≡ Ok reached
none_entered heap fuel reached =
    let one = walk_none heap fuel reached 1 H in
    ap (λ r. result_and_then r (λ one. result_and_then (walk heap Flat fuel one None 1 H) (λ two. walk heap Flat fuel two None 1 H))) one
    ∙ ap (λ r. result_and_then r (λ two. walk heap Flat fuel two None 1 H)) one ∙ one

next_at : (heap : Heap) (n : ℕ) (node : Node) → fin.get heap.nodes n ≡ Some node → next_of heap n ≡ node.fields.next
next_at heap n node at = ap (option_and_then (λ (x : Node). x.fields.next)) at

walked : (heap : Heap) (fuel : ℕ) (reached : List ℕ) (to : Option ℕ) (names : List ℕ) → walk heap Flat fuel reached to 0 H ≡ Ok names → names ≡ reached ++ first_along heap fuel to
walked heap zero reached to names e = sym (same_Ok reached names e) ∙ sym (append-nil reached)
walked heap (suc fuel) reached None names e = sym (same_Ok reached names e) ∙ sym (append-nil reached)
walked heap (suc fuel) reached (Some n) names e =
    let went = went_Ok (λ (entry : Node × List ℕ). walk heap Flat fuel entry.1 entry.0.fields.next 0 H)
    (enter heap Flat (λ before to depth k. walk heap Flat fuel before to depth k) reached n 0 H) names e in
    let tested = went_Ok (λ (node : Node). result_map (λ (inner : List ℕ). (node, inner)) (in_turn (λ before to inner. walk heap Flat fuel before to 1 inner) (reached ++ n ∷ []) (entered Flat node.fields.contents)))
    (node_reached heap Flat reached n 0 H) went.value went.is in
    let inside = mapped_Ok (λ (inner : List ℕ). (tested.value, inner)) (in_turn (λ before to inner. walk heap Flat fuel before to 1 inner) (reached ++ n ∷ []) no_lists) went.value tested.gives in
    let all : reached ++ n ∷ [] ≡ inside.value = same_Ok (reached ++ n ∷ []) inside.value (sym (none_entered heap fuel (reached ++ n ∷ [])) ∙ inside.is) in
    let entry : went.value ≡ (tested.value, reached ++ n ∷ []) = sym inside.gives ∙ ap (λ (x : List ℕ). (tested.value, x)) (sym all) in
    let rest : walk heap Flat fuel (reached ++ n ∷ []) tested.value.fields.next 0 H ≡ Ok names = ap (λ (x : Node × List ℕ). walk heap Flat fuel x.1 x.0.fields.next 0 H) (sym entry) ∙ went.gives in
    let live = passes heap Flat reached n 0 H tested.value tested.is in
    walked heap fuel (reached ++ n ∷ []) tested.value.fields.next names rest
    ∙ append_assoc reached (n ∷ []) (first_along heap fuel tested.value.fields.next)
    ∙ ap (λ (o : Option ℕ). reached ++ n ∷ first_along heap fuel o) (sym (next_at heap n tested.value live.live))

pub along_is_the_walk : AlongIsTheWalk
along_is_the_walk heap to names e = sym (walked heap (fuel_of heap) [] to names e)

-- ---- as it is read
one_less : (most : ℕ) → 0 < most → (less : ℕ) × (most ≡ suc less) × (most - 1 ≡ less)
one_less zero h = let no : 0 < 0 = h in absurd (omega arith)
one_less (suc less) h = (less, refl, omega arith)

pub one_along : (heap : Heap) (most n : ℕ) (at : Option ℕ) (now new total : List ℕ) → 0 < most → at ≡ Some n → now ++ first_along heap most at ≡ total → new ≡ now ++ n ∷ [] → new ++ first_along heap (most - 1) (next_of heap n) ≡ total
one_along heap most n at now new total h is e pushed =
    let l = one_less most h in
    ap (λ x. x ++ first_along heap (most - 1) (next_of heap n)) pushed
    ∙ append_assoc now (n ∷ []) (first_along heap (most - 1) (next_of heap n))
    ∙ ap (λ m. now ++ n ∷ first_along heap m (next_of heap n)) l.2
    ∙ ap (λ o. now ++ first_along heap (suc l.0) o) (sym is)
    ∙ ap (λ m. now ++ first_along heap m at) (sym l.1) ∙ e

none_along : (heap : Heap) (most : ℕ) → first_along heap most None ≡ []
none_along heap zero = refl
none_along heap (suc most) = refl

none_of : (at : Option ℕ) → ((n : ℕ) → at ≡ Some n → ⊥) → at ≡ None
none_of None h = refl
none_of (Some n) h = absurd (h n refl)

pub ended_along : (heap : Heap) (most : ℕ) (at : Option ℕ) (now total : List ℕ) → ((n : ℕ) → at ≡ Some n → ⊥) → now ++ first_along heap most at ≡ total → now ≡ total
ended_along heap most at now total is e = sym (append-nil now) ∙ ap (λ x. now ++ x) (sym (none_along heap most)) ∙ ap (λ o. now ++ first_along heap most o) (sym (none_of at is)) ∙ e

pub full_along : (heap : Heap) (most : ℕ) (at : Option ℕ) (now total : List ℕ) → most ≤ 0 → now ++ first_along heap most at ≡ total → now ≡ total
full_along heap most at now total is e = let empty : most ≡ 0 = omega arith in sym (append-nil now) ∙ ap (λ m. now ++ first_along heap m at) (sym empty) ∙ e
