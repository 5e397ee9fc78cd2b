-- The list of a made box.
use Rattle.std.proofs.Common.{◌≡◌, ℕ, ◌+◌, ◌<◌, ℤ, List, [], ◌∷◌, map, false, cond, Some, None, Ok, Err, refl, sym, ◌∙◌, ap, subst, arith}
use Rattle.std.specs.Prelude.{Option, Result, is_some, is_none, nat_eq, nat_le}
use Rattle.std.specs.List.{cons_option}
use Rattle.std.specs.FinMap as fin
use Rattle.std.specs.Cmp.{nat_cmp_total, unsigned_tied}
use Rattle.std.proofs.lemmas.Bool.Decides.{nat_tests}
use Rattle.ntx_num.specs.Answer.{result_map, result_and_then}
use Rattle.ntx_num.specs.Dimension.{max_nodes}
use Rattle.ntx_nodes.specs.Heap.{Heap, IsLawful, name_limit}
use Rattle.ntx_nodes.specs.Steps.{put, next_name, making}
use Rattle.ntx_nodes.specs.Walk.{inner_lists, checked_walk, flat_walk, fuel_of}
use Rattle.ntx_nodes.specs.declared.kind.ListKind.{ListKind}
use Rattle.ntx_nodes.specs.declared.kind.ListKind.TheVariants.{H}
use Rattle.ntx_nodes.specs.declared.kind.Way.TheVariants.{Checked, Flat}
use Rattle.ntx_nodes.specs.declared.fields.Contents.{Contents}
use Rattle.ntx_nodes.specs.declared.fields.Contents.TheVariants as contents
use Rattle.ntx_nodes.specs.declared.node.Node.{Node}
use Rattle.ntx_nodes.specs.declared.trouble.Trouble.{Trouble}
use Rattle.ntx_nodes.specs.declared.trouble.Trouble.TheVariants.{NodesFull, NamesOut}
use Rattle.ntx_num.proofs.Answers.{mapped_Ok, went_Ok, not_taken}
use Rattle.ntx_nodes.proofs.Fuel.{then_same}
use Rattle.ntx_tfm.specs.Font.{FontTables}
use Rattle.ntx_item.specs.declared.item.Item.{Item}
use Rattle.ntx_item.specs.declared.item.Item.TheVariants.{Disc}
use Rattle.ntx_item.specs.declared.pack_to.PackTo.{PackTo}
use Rattle.ntx_view.specs.Natural.{hlist_size}
use Rattle.ntx_view.specs.View.{is_missing_char_at, first_missing_char, item_with, names_in, nodes_named, list_nodes, bare_item, part_size, item_of, list_items, unless_missing_char, items_answer}
use Rattle.ntx_pack.specs.declared.direction.Direction.{Direction}
use Rattle.ntx_pack.specs.declared.packed.Packed.{Packed}
use Rattle.ntx_pack.specs.Pack.{packed, box_node, list_kind, pack_step}
use Rattle.ntx_pack.specs.Laws.{HoldsItsList}
use Rattle.ntx_pack.proofs.BoxLemmas.{get_put, beyond}
use Rattle.ntx_pack.proofs.WalkLemmas.{IsBelow, AreBelow, NamesBelow, Agree, walk_from_same, inner_links_below, reached}

-- ---- what is read below the next name is the same
nodes_same : (heap new : Heap) (names : List ℕ) → Agree heap new → NamesBelow heap.next names → nodes_named new names ≡ nodes_named heap names
nodes_same heap new [] agree below = refl
nodes_same heap new (n ∷ ns) agree below = λ j. cons_option (agree.get n below.0 j) (nodes_same heap new ns agree below.1 j)

lacking_same : (heap new : Heap) (fonts : List FontTables) (names : List ℕ) → Agree heap new → NamesBelow heap.next names → first_missing_char new fonts names ≡ first_missing_char heap fonts names
lacking_same heap new fonts [] agree below = refl
lacking_same heap new fonts (n ∷ ns) agree below = λ j. cond (is_missing_char_at fonts (agree.get n below.0 j)) (Some n) (lacking_same heap new fonts ns agree below.1 j)

-- two heaps, the second with one node more
record OneMore (heap new : Heap) : Type 0 where
  lawful : IsLawful heap
  agree : Agree heap new
  fuel : fuel_of new ≡ fuel_of heap + 1

names_in_below : (heap : Heap) (to : Option ℕ) (r : Result (List ℕ) Trouble) → IsLawful heap → flat_walk heap to ≡ r → NamesBelow heap.next (names_in r)
names_in_below heap to (Ok names) lawful e = (reached heap Flat to H names lawful e).each
names_in_below heap to (Err why) lawful e = tt

list_nodes_same : (heap new : Heap) (to : Option ℕ) → OneMore heap new → IsBelow heap.next to → list_nodes new to ≡ list_nodes heap to
list_nodes_same heap new to more below =
    ap (λ r. nodes_named new (names_in r)) (walk_from_same heap new Flat to H more.lawful more.agree more.fuel below)
    ∙ nodes_same heap new (names_in (flat_walk heap to)) more.agree (names_in_below heap to (flat_walk heap to) more.lawful refl)

part_same : (heap new : Heap) (fonts : List FontTables) (to : Option ℕ) → OneMore heap new → IsBelow heap.next to → part_size new fonts to ≡ part_size heap fonts to
part_same heap new fonts to more below = ap (λ nodes. hlist_size (map (bare_item fonts) nodes)) (list_nodes_same heap new to more below)

contents_same : (heap new : Heap) (fonts : List FontTables) (subtype : ℕ) (c : Contents) → OneMore heap new → AreBelow heap.next (inner_lists c) → item_with (part_size new fonts) fonts subtype c ≡ item_with (part_size heap fonts) fonts subtype c
contents_same heap new fonts subtype (contents.Disc d) more below =
    λ j. Disc (part_same heap new fonts d.pre more below.0 j) (part_same heap new fonts d.post more below.1 j) (part_same heap new fonts d.replace more below.2 j) (is_none d.pre) (is_none d.post) (nat_eq subtype 3)
contents_same heap new fonts subtype (contents.Hlist b) more below = refl
contents_same heap new fonts subtype (contents.Vlist b) more below = refl
contents_same heap new fonts subtype (contents.Rule r) more below = refl
contents_same heap new fonts subtype (contents.Glyph g) more below = refl
contents_same heap new fonts subtype (contents.Glue g) more below = refl
contents_same heap new fonts subtype (contents.Kern w) more below = refl
contents_same heap new fonts subtype (contents.Penalty p) more below = refl

items_on : (heap new : Heap) (fonts : List FontTables) (n : ℕ) (o : Option Node) (nodes : List Node) → OneMore heap new → fin.get heap.nodes n ≡ o → map (item_of new fonts) nodes ≡ map (item_of heap fonts) nodes
    → map (item_of new fonts) (cons_option o nodes) ≡ map (item_of heap fonts) (cons_option o nodes)
items_on heap new fonts n None nodes more e rest = rest
items_on heap new fonts n (Some node) nodes more e rest =
    let one : item_of new fonts node ≡ item_of heap fonts node = contents_same heap new fonts node.fields.subtype node.fields.contents more (inner_links_below heap n node more.lawful e) in
    λ j. one j ∷ rest j

items_of_same : (heap new : Heap) (fonts : List FontTables) (names : List ℕ) → OneMore heap new → map (item_of new fonts) (nodes_named heap names) ≡ map (item_of heap fonts) (nodes_named heap names)
items_of_same heap new fonts [] more = refl
items_of_same heap new fonts (n ∷ ns) more = items_on heap new fonts n (fin.get heap.nodes n) (nodes_named heap ns) more refl (items_of_same heap new fonts ns more)

list_items_same : (heap new : Heap) (fonts : List FontTables) (head : Option ℕ) → OneMore heap new → IsBelow heap.next head → list_items new fonts head ≡ list_items heap fonts head
list_items_same heap new fonts head more below = ap (map (item_of new fonts)) (list_nodes_same heap new head more below) ∙ items_of_same heap new fonts (names_in (flat_walk heap head)) more

items_same : (heap new : Heap) (fonts : List FontTables) (head : Option ℕ) (k : ListKind) → OneMore heap new → IsBelow heap.next head → items_answer new fonts head k ≡ items_answer heap fonts head k
items_same heap new fonts head k more below =
    then_same (checked_walk new head k) (checked_walk heap head k) (λ names. unless_missing_char (first_missing_char new fonts names) (list_items new fonts head)) (λ names. unless_missing_char (first_missing_char heap fonts names) (list_items heap fonts head))
    (walk_from_same heap new Checked head k more.lawful more.agree more.fuel below)
    (λ names is j. unless_missing_char (lacking_same heap new fonts names more.agree (reached heap Checked head k names more.lawful is).each j) (list_items_same heap new fonts head more below j))

-- ---- the heap with a made node
next_is : (heap : Heap) (k : ℕ) → next_name heap ≡ Ok k → heap.next ≡ k
next_is heap k e =
    let a = not_taken (nat_le max_nodes (fin.len heap.nodes)) NodesFull (cond (nat_le name_limit heap.next) (Err NamesOut) (Ok heap.next)) k e in
    let b = not_taken (nat_le name_limit heap.next) NamesOut (Ok heap.next) k a.1 in
    let ok : ◌≡◌ {A = Result ℕ Trouble} (Ok heap.next) (Ok k) = b.1 in
    cc

no_next : (heap : Heap) (o : Option Node) → IsLawful heap → fin.get heap.nodes heap.next ≡ o → is_some o ≡ false
no_next heap None lawful e = refl
no_next heap (Some node) lawful e = absurd (let below : heap.next < heap.next = lawful.names heap.next node e in omega arith)

other : (m n : ℕ) → m < n → nat_eq m n ≡ false
other m n lt = grind (arith, nat_tests)

one_more : (heap : Heap) (node : Node) → IsLawful heap → OneMore heap (put (beyond heap heap.next) heap.next node)
one_more heap node lawful = record {
  lawful = lawful;
  agree = record { get = λ m lt. fin.get-insert nat_cmp_total heap.nodes heap.next node m ∙ ap (λ b. cond b (Some node) (fin.get heap.nodes m)) (unsigned_tied m heap.next ∙ other m heap.next lt) };
  fuel = ap (λ n. n + 1) (fin.len-insert nat_cmp_total heap.nodes heap.next node ∙ ap (λ b. cond b (fin.len heap.nodes) (fin.len heap.nodes + 1)) (no_next heap (fin.get heap.nodes heap.next) lawful refl));
}

-- ---- the law
holds_if : (direction : Direction) (fonts : List FontTables) (head : Option ℕ) (to : PackTo) (heap new : Heap) (n : ℕ) (badness : ℤ) (items : List Item) (box : Packed) → IsLawful heap → items_answer heap fonts head (list_kind direction) ≡ Ok items
    → packed direction to items ≡ Ok box → heap.next ≡ n → badness ≡ box.badness → new ≡ put (beyond heap n) n (box_node direction head box) → HoldsItsList direction fonts head to heap new n badness
holds_if direction fonts head to heap new n badness items box lawful before decided name told is =
    let node : Node = box_node direction head box in
    let walk = went_Ok (λ names. unless_missing_char (first_missing_char heap fonts names) (list_items heap fonts head)) (checked_walk heap head (list_kind direction)) items before in
    let below : IsBelow heap.next head = (reached heap Checked head (list_kind direction) walk.value lawful walk.is).first in
    let after : items_answer (put (beyond heap heap.next) heap.next node) fonts head (list_kind direction) ≡ Ok items = items_same heap (put (beyond heap heap.next) heap.next node) fonts head (list_kind direction) (one_more heap node lawful) below ∙ before in
    record {
      items = items;
      box = box;
      before = before;
      decided = decided;
      badness_is = told;
      made = ap (λ (h : Heap). fin.get h.nodes n) is ∙ get_put (beyond heap n) n node;
      after = ap (λ h. items_answer h fonts head (list_kind direction)) is ∙ subst (λ m. items_answer (put (beyond heap m) m node) fonts head (list_kind direction) ≡ Ok items) name after;
    }

pub boxes_hold_their_lists_lem : (direction : Direction) (fonts : List FontTables) (head : Option ℕ) (to : PackTo) (heap new : Heap) (n : ℕ) (badness : ℤ) → IsLawful heap → pack_step direction fonts head to heap ≡ Ok ((n, badness), new) → HoldsItsList direction fonts head to heap new n badness
boxes_hold_their_lists_lem direction fonts head to heap new n badness lawful e =
    let tell : Packed → ℕ × Heap → (ℕ × ℤ) × Heap = λ box made. ((made.0, box.badness), made.1) in
    let first = went_Ok (λ items. result_and_then (packed direction to items) (λ box. result_map (tell box) (making (box_node direction head box) heap))) (items_answer heap fonts head (list_kind direction)) ((n, badness), new) e in
    let second = went_Ok (λ box. result_map (tell box) (making (box_node direction head box) heap)) (packed direction to first.value) ((n, badness), new) first.gives in
    let node : Node = box_node direction head second.value in
    let third = mapped_Ok (tell second.value) (making node heap) ((n, badness), new) second.gives in
    let fourth = mapped_Ok (λ k. (k, record { next = k + 1; nodes = fin.insert heap.nodes k node; current = heap.current })) (next_name heap) third.value third.is in
    let k : ℕ = fourth.value in
    let name : k ≡ n = ap (λ (p : ℕ × Heap). p.0) fourth.gives ∙ ap (λ (p : (ℕ × ℤ) × Heap). p.0.0) third.gives in
    let made : put (beyond heap k) k node ≡ new = ap (λ (p : ℕ × Heap). p.1) fourth.gives ∙ ap (λ (p : (ℕ × ℤ) × Heap). p.1) third.gives in
    let told : second.value.badness ≡ badness = ap (λ (p : (ℕ × ℤ) × Heap). p.0.1) third.gives in
    holds_if direction fonts head to heap new n badness first.value second.value lawful first.is second.is (next_is heap k fourth.is ∙ name) (sym told) (sym made ∙ ap (λ m. put (beyond heap m) m node) name)
