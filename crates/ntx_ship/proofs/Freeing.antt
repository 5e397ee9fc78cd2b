-- The lists of a page that was placed can be freed.
use Rattle.std.proofs.Common.{◌≡◌, ℕ, zero, suc, ◌+◌, Bool, true, false, List, [], ◌∷◌, ◌++◌, Some, None, Ok, Err, ap, ◌∙◌}
use Rattle.std.specs.Prelude.{Option, Result, not, if◌then◌else◌}
use Rattle.std.specs.FinMap as map
use Rattle.ntx_num.specs.Answer.{result_map, result_and_then}
use Rattle.ntx_num.proofs.Answers.{mapped_Ok, went_Ok}
use Rattle.ntx_nodes.specs.Heap.{Heap}
use Rattle.ntx_nodes.specs.Fields.{kind_of}
use Rattle.ntx_nodes.specs.Steps.{of_found, at}
use Rattle.ntx_nodes.specs.Walk.{allows, inner_lists, is_reached, is_too_deep, node_reached, in_turn, enter, walk, fuel_of, checked_walk, plain_walk}
use Rattle.ntx_nodes.specs.declared.inner.InnerLists.{InnerLists}
use Rattle.ntx_nodes.specs.declared.kind.ListKind.{ListKind}
use Rattle.ntx_nodes.specs.declared.kind.ListKind.TheVariants.{H}
use Rattle.ntx_nodes.specs.declared.kind.Way.TheVariants.{Checked, Plain}
use Rattle.ntx_nodes.specs.declared.node.Node.{Node}
use Rattle.ntx_nodes.specs.declared.trouble.Trouble.{Trouble}
use Rattle.ntx_nodes.specs.declared.trouble.Trouble.TheVariants.{Loop, Nest, WrongKind}
use Rattle.ntx_tfm.specs.Font.{FontTables}
use Rattle.ntx_item.specs.declared.item.Item.{Item}
use Rattle.ntx_view.specs.View.{items_answer, unless_missing_char, first_missing_char, list_items}
use Rattle.ntx_ship.specs.Placed.{Page, page_in, list_pieces, max_levels, placed}

-- ---- without the tests of kinds

-- the tests at a node
abbrev tested : ℕ → Bool → Bool → Bool → Node → Result Node Trouble
tested n again deep admitted node = if again then Err (Loop n) else if deep then Err Nest else if not admitted then Err (WrongKind n) else Ok node

tests_so : (n : ℕ) (again deep admitted : Bool) (node found : Node) → tested n again deep admitted node ≡ Ok found → tested n again deep true node ≡ Ok found
tests_so n true deep admitted node found e = cc
tests_so n false true admitted node found e = cc
tests_so n false false true node found e = e
tests_so n false false false node found e = cc

found_so : (n : ℕ) (o : Option Node) (again deep : Bool) (k : ListKind) (found : Node) → of_found n (λ node. tested n again deep (allows k (kind_of node.fields.contents)) node) o ≡ Ok found → of_found n (λ node. tested n again deep true node) o ≡ Ok found
found_so n None again deep k found e = cc
found_so n (Some node) again deep k found e = tests_so n again deep (allows k (kind_of node.fields.contents)) node found e

reached_so : (heap : Heap) (r : List ℕ) (n d : ℕ) (k j : ListKind) (found : Node) → node_reached heap Checked r n d k ≡ Ok found → node_reached heap Plain r n d j ≡ Ok found
reached_so heap r n d k j found e = found_so n (map.get heap.nodes n) (is_reached r n) (is_too_deep Checked d) k found e

-- ---- the lists of a node

abbrev Lister : Type 0
Lister = List ℕ → Option ℕ → ListKind → Result (List ℕ) Trouble

-- What the first reaches, the second does.
abbrev ReachesAll : Lister → Lister → Type 0
ReachesAll one two = (r : List ℕ) (to : Option ℕ) (k : ListKind) (names : List ℕ) → one r to k ≡ Ok names → two r to k ≡ Ok names

turns_so : (one two : Lister) → ReachesAll one two → (r : List ℕ) (l : InnerLists) (names : List ℕ) → in_turn one r l ≡ Ok names → in_turn two r l ≡ Ok names
turns_so one two so r l names e =
    let a = went_Ok (λ (xs : List ℕ). result_and_then (one xs l.second l.kind) (λ (ys : List ℕ). one ys l.third l.kind)) (one r l.first l.kind) names e in
    let b = went_Ok (λ (ys : List ℕ). one ys l.third l.kind) (one a.value l.second l.kind) names a.gives in
    ap (λ (x : Result (List ℕ) Trouble). result_and_then x (λ (xs : List ℕ). result_and_then (two xs l.second l.kind) (λ (ys : List ℕ). two ys l.third l.kind))) (so r l.first l.kind a.value a.is)
    ∙ ap (λ (x : Result (List ℕ) Trouble). result_and_then x (λ (ys : List ℕ). two ys l.third l.kind)) (so a.value l.second l.kind b.value b.is)
    ∙ so b.value l.third l.kind names b.gives

-- ---- walks

abbrev Walker : Type 0
Walker = List ℕ → Option ℕ → ℕ → ListKind → Result (List ℕ) Trouble

abbrev AllWalks : Walker → Walker → Type 0
AllWalks one two = (r : List ℕ) (to : Option ℕ) (d : ℕ) (k : ListKind) (names : List ℕ) → one r to d k ≡ Ok names → two r to d k ≡ Ok names

abbrev with_lists : Walker → List ℕ → ℕ → ℕ → Node → Result (Node × List ℕ) Trouble
with_lists f r n d node = result_map (λ (names : List ℕ). (node, names)) (in_turn (λ before to inner. f before to (d + 1) inner) (r ++ n ∷ []) (inner_lists node.fields.contents))

enters_so : (heap : Heap) (one two : Walker) → AllWalks one two → (r : List ℕ) (n d : ℕ) (k j : ListKind) (entry : Node × List ℕ) → enter heap Checked one r n d k ≡ Ok entry → enter heap Plain two r n d j ≡ Ok entry
enters_so heap one two so r n d k j entry e =
    let a = went_Ok (with_lists one r n d) (node_reached heap Checked r n d k) entry e in
    let lists = inner_lists a.value.fields.contents in
    let b = mapped_Ok {B = Node × List ℕ} (λ (names : List ℕ). (a.value, names)) (in_turn (λ before to inner. one before to (d + 1) inner) (r ++ n ∷ []) lists) entry a.gives in
    ap (λ (x : Result Node Trouble). result_and_then x (with_lists two r n d)) (reached_so heap r n d k j a.value a.is)
    ∙ ap (result_map {B = Node × List ℕ} (λ (names : List ℕ). (a.value, names)))
    (turns_so (λ before to inner. one before to (d + 1) inner) (λ before to inner. two before to (d + 1) inner) (λ before to inner names h. so before to (d + 1) inner names h) (r ++ n ∷ []) lists b.value b.is)
    ∙ ap (λ (x : Node × List ℕ). Ok x) b.gives

-- The walk that tests kinds reaches what the other does.
walks_so : (heap : Heap) (fuel : ℕ) (r : List ℕ) (to : Option ℕ) (d : ℕ) (k j : ListKind) (names : List ℕ) → walk heap Checked fuel r to d k ≡ Ok names → walk heap Plain fuel r to d j ≡ Ok names
walks_so heap zero r to d k j names e = e
walks_so heap (suc fuel) r None d k j names e = e
walks_so heap (suc fuel) r (Some n) d k j names e =
    let a = went_Ok (λ (entry : Node × List ℕ). walk heap Checked fuel entry.1 entry.0.fields.next d k) (enter heap Checked (λ before to inner_depth inner. walk heap Checked fuel before to inner_depth inner) r n d k) names e in
    ap (λ (x : Result (Node × List ℕ) Trouble). result_and_then x (λ (entry : Node × List ℕ). walk heap Plain fuel entry.1 entry.0.fields.next d j))
    (enters_so heap (λ before to inner_depth inner. walk heap Checked fuel before to inner_depth inner) (λ before to inner_depth inner. walk heap Plain fuel before to inner_depth inner)
    (λ before to inner_depth inner reached h. walks_so heap fuel before to inner_depth inner inner reached h) r n d k j a.value a.is)
    ∙ walks_so heap fuel a.value.1 a.value.0.fields.next d k j names a.gives

-- ---- pages

-- the names of a list that can be freed
pub record IsFreeable (heap : Heap) (head : Option ℕ) : Type 0 where
  pub names : List ℕ
  pub walk : plain_walk heap head ≡ Ok names

pub placed_freeable : (heap : Heap) (fonts : List FontTables) (page : ℕ) (seen : Page) → placed heap fonts page ≡ Ok seen → IsFreeable heap (Some page)
placed_freeable heap fonts page seen e =
    let a = went_Ok (λ (items : List Item). at heap page (λ node. page_in (list_pieces heap fonts max_levels) page node.fields.contents)) (items_answer heap fonts (Some page) H) seen e in
    let b = went_Ok (λ (names : List ℕ). unless_missing_char (first_missing_char heap fonts names) (list_items heap fonts (Some page))) (checked_walk heap (Some page) H) a.value a.is in
    record { names = b.value; walk = walks_so heap (fuel_of heap) [] (Some page) 0 H H b.value b.is }
