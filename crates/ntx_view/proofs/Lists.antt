-- Items of nodes, one after another.
use Rattle.std.proofs.Common.{◌≡◌, ℕ, zero, suc, ◌+◌, ◌*◌, ◌≤◌, ◌<◌, List, [], ◌∷◌, ◌++◌, length, map, take, get_or, slice_get, Some, Ok, None, refl, sym, ◌∙◌, ap, length-append, arith}
use Rattle.std.specs.Prelude.{Option, sum_by}
use Rattle.std.specs.Option.{option_map}
use Rattle.std.specs.List.{All, cons_option}
use Rattle.std.specs.FinMap as map'
use Rattle.std.proofs.lemmas.List.{take_more, map-append, length-take-le}
use Rattle.std.proofs.lemmas.List.Elements.{filter_map-append, All-push, All-weaker}
use Rattle.std.proofs.lemmas.List.Sums.{sum_by-le, sum_by_push, sum_by_more}
use Rattle.ntx_num.specs.Dimension.{max_dimension, max_nodes}
use Rattle.ntx_nodes.specs.Heap.{Heap}
use Rattle.ntx_nodes.specs.declared.node.Node.{Node}
use Rattle.ntx_item.specs.declared.item.Item.{Item}
use Rattle.ntx_item.specs.Items.{absolute_width, absolute_stretch, absolute_shrink, IsItemInRange, AreItemsInRange}
use Rattle.ntx_view.specs.Natural.{IsReaching}
use Rattle.ntx_nodes.specs.WalkLaws.{AreFresh}
use Rattle.ntx_view.specs.View.{nodes_named, no_size, item_with, bare_item}
use Rattle.ntx_num.proofs.Answers.{same_Ok, same_Some}
use Rattle.ntx_nodes.proofs.Oks.{at_Ok}
use Rattle.ntx_nodes.specs.Steps.{fields_answer}
use Rattle.ntx_nodes.specs.declared.fields.Fields.{Fields}
use Rattle.ntx_nodes.specs.declared.trouble.Trouble.{Trouble}
use Rattle.ntx_tfm.specs.Font.{FontTables}
use Rattle.ntx_view.proofs.Counts.{live_node}
use Rattle.ntx_view.specs.Bounds.{IsBoundedBy, AreBoundedBy, weight_at}

one_found : (f : Node → Item) (o : Option Node) (item : Item) → option_map f o ≡ Some item → map f (cons_option o []) ≡ item ∷ []
one_found f None item e = cc
one_found f (Some node) item e = let same : f node ≡ item = same_Some (f node) item e in ap (λ x. x ∷ []) same

pub bare_found : (heap : Heap) (fonts : List FontTables) (n : ℕ) (fields : Fields) (item : Item) → fields_answer n heap ≡ Ok fields → item ≡ item_with (λ _. no_size) fonts fields.subtype fields.contents
    → option_map (bare_item fonts) (map'.get heap.nodes n) ≡ Some item
bare_found heap fonts n fields item e item-is =
    let found = at_Ok heap n (λ node. Ok node.fields) fields e in
    let same : found.node.fields ≡ fields = same_Ok {E = Trouble} found.node.fields fields found.gives in
    ap (option_map (bare_item fonts)) found.is ∙ ap (λ (x : Fields). Some (item_with (λ _. no_size) fonts x.subtype x.contents)) same ∙ ap Some (sym item-is)

-- the items of one node more
pub items_more : (f : Node → Item) (heap : Heap) (names : List ℕ) (i : ℕ) (item : Item) → i < length names → option_map f (map'.get heap.nodes (get_or names i 0)) ≡ Some item
    → map f (nodes_named heap (take (i + 1) names)) ≡ map f (nodes_named heap (take i names)) ++ item ∷ []
items_more f heap names i item lt e =
    ap (λ x. map f (nodes_named heap x)) (take_more names i 0 lt)
    ∙ ap (map f) (filter_map-append (λ n. map'.get heap.nodes n) (take i names) (get_or names i 0 ∷ []))
    ∙ map-append f (nodes_named heap (take i names)) (cons_option (map'.get heap.nodes (get_or names i 0)) [])
    ∙ ap (λ x. map f (nodes_named heap (take i names)) ++ x) (one_found f (map'.get heap.nodes (get_or names i 0)) item e)

-- ---- a list whose items are measured from one node each
pub bounded_in_range : (items : List Item) → All (IsBoundedBy 1) items → length items ≤ max_nodes → AreItemsInRange items
bounded_in_range items all few =
    let w : sum_by absolute_width items ≤ length items * (1 * max_dimension) = sum_by-le absolute_width (1 * max_dimension) items (All-weaker (IsBoundedBy 1) (λ item. absolute_width item ≤ 1 * max_dimension) (λ item m. m.width) items all) in
    let s : sum_by absolute_stretch items ≤ length items * max_dimension = sum_by-le absolute_stretch max_dimension items (All-weaker (IsBoundedBy 1) (λ item. absolute_stretch item ≤ max_dimension) (λ item m. m.stretch) items all) in
    let h : sum_by absolute_shrink items ≤ length items * max_dimension = sum_by-le absolute_shrink max_dimension items (All-weaker (IsBoundedBy 1) (λ item. absolute_shrink item ≤ max_dimension) (λ item m. m.shrink) items all) in
    record {
      count = omega arith;
      each = All-weaker (IsBoundedBy 1) IsItemInRange (λ item m. m.in_range) items all;
      widths = omega arith;
      stretches = omega arith;
      shrinks = omega arith;
    }

pub bounded_width : (items : List Item) (n : ℕ) → All (IsBoundedBy 1) items → length items ≤ n → sum_by absolute_width items ≤ n * max_dimension
bounded_width items n all few =
    let w : sum_by absolute_width items ≤ length items * (1 * max_dimension) = sum_by-le absolute_width (1 * max_dimension) items (All-weaker (IsBoundedBy 1) (λ item. absolute_width item ≤ 1 * max_dimension) (λ item m. m.width) items all) in
    omega arith

-- ---- a list whose items are measured from several nodes
-- of one name more
pub bounded_more : (heap : Heap) (names : List ℕ) (items : List Item) (i : ℕ) (item : Item) → i < length names → AreBoundedBy heap (take i names) items
    → IsBoundedBy (weight_at heap (get_or names i 0)) item → AreBoundedBy heap (take (i + 1) names) (items ++ item ∷ [])
bounded_more heap names items i item lt m one =
    let weights : sum_by (weight_at heap) (take (i + 1) names) ≡ sum_by (weight_at heap) (take i names) + weight_at heap (get_or names i 0) = sum_by_more (weight_at heap) names i 0 lt in
    let l1 : length (take i names) ≡ i = length-take-le i names (omega arith) in
    let l2 : length (take (i + 1) names) ≡ i + 1 = length-take-le (i + 1) names (omega arith) in
    let count : length items ≤ length (take i names) = m.count in
    let widths : sum_by absolute_width items ≤ sum_by (weight_at heap) (take i names) * max_dimension = m.widths in
    let stretches : sum_by absolute_stretch items ≤ length (take i names) * max_dimension = m.stretches in
    let shrinks : sum_by absolute_shrink items ≤ length (take i names) * max_dimension = m.shrinks in
    let w : sum_by absolute_width (items ++ item ∷ []) ≡ sum_by absolute_width items + absolute_width item = sum_by_push absolute_width items item in
    let s : sum_by absolute_stretch (items ++ item ∷ []) ≡ sum_by absolute_stretch items + absolute_stretch item = sum_by_push absolute_stretch items item in
    let h : sum_by absolute_shrink (items ++ item ∷ []) ≡ sum_by absolute_shrink items + absolute_shrink item = sum_by_push absolute_shrink items item in
    let own : absolute_width item ≤ weight_at heap (get_or names i 0) * max_dimension = one.width in
    let own_s : absolute_stretch item ≤ max_dimension = one.stretch in
    let own_h : absolute_shrink item ≤ max_dimension = one.shrink in
    record {
      count = omega (arith, length-append items (item ∷ []));
      each = All-push IsItemInRange items item m.each one.in_range;
      widths = omega arith;
      stretches = omega arith;
      shrinks = omega arith;
      reaching = All-push IsReaching items item m.reaching one.reaching;
    }

pub bounded_items_in_range : (heap : Heap) (names : List ℕ) (items : List Item) → AreBoundedBy heap names items → length names ≤ max_nodes → sum_by (weight_at heap) names ≤ max_nodes → AreItemsInRange items
bounded_items_in_range heap names items m few weighs =
    let widths : sum_by absolute_width items ≤ sum_by (weight_at heap) names * max_dimension = m.widths in
    let stretches : sum_by absolute_stretch items ≤ length names * max_dimension = m.stretches in
    let shrinks : sum_by absolute_shrink items ≤ length names * max_dimension = m.shrinks in
    let count : length items ≤ length names = m.count in
    record { count = omega arith; each = m.each; widths = omega arith; stretches = omega arith; shrinks = omega arith }

-- ---- live nodes are found
pub nodes_found : (heap : Heap) (before names : List ℕ) → AreFresh heap before names → length (nodes_named heap names) ≡ length names
nodes_found heap before [] fresh = refl
nodes_found heap before (n ∷ ns) fresh =
    let node = live_node (map'.get heap.nodes n) fresh.0 in
    ap (λ o. length (cons_option o (nodes_named heap ns))) node.1 ∙ ap suc (nodes_found heap (before ++ n ∷ []) ns fresh.2)

-- item k is that of the k-th name
found_at : (f : Node → Item) (nodes : List Node) (o : Option Node) (node : Node) (k : ℕ) → o ≡ Some node → slice_get (map f (cons_option o nodes)) (suc k) ≡ slice_get (map f nodes) k
found_at f nodes None node k e = cc
found_at f nodes (Some first) node k e = refl

found_first : (f : Node → Item) (nodes : List Node) (o : Option Node) (node : Node) → o ≡ Some node → slice_get (map f (cons_option o nodes)) 0 ≡ option_map f o
found_first f nodes None node e = cc
found_first f nodes (Some first) node e = refl

pub item_found : (f : Node → Item) (heap : Heap) (before names : List ℕ) → AreFresh heap before names → (k n : ℕ) → slice_get names k ≡ Some n → slice_get (map f (nodes_named heap names)) k ≡ option_map f (map'.get heap.nodes n)
item_found f heap before [] fresh k n e = cc
item_found f heap before (m ∷ ms) fresh zero n e =
    let node = live_node (map'.get heap.nodes m) fresh.0 in
    let same : m ≡ n = same_Some m n e in
    found_first f (nodes_named heap ms) (map'.get heap.nodes m) node.0 node.1 ∙ ap (λ x. option_map f (map'.get heap.nodes x)) same
item_found f heap before (m ∷ ms) fresh (suc k) n e =
    let node = live_node (map'.get heap.nodes m) fresh.0 in
    found_at f (nodes_named heap ms) (map'.get heap.nodes m) node.0 k node.1 ∙ item_found f heap (before ++ m ∷ []) ms fresh.2 k n e
