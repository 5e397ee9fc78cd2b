-- The items of lawful heaps.
use Rattle.std.proofs.Common.{◌≡◌, ℕ, ℤ, pos, List, [], ◌∷◌, map, Ok, Some, None, refl, subst, arith}
use Rattle.std.specs.Prelude.{Option}
use Rattle.std.specs.List.{All, cons_option}
use Rattle.std.specs.FinMap as fin
use Rattle.std.proofs.lemmas.Int.{ints}
use Rattle.std.proofs.lemmas.List.Elements.{All-nil, All-cons}
use Rattle.ntx_num.specs.declared.size.Size.{Size}
use Rattle.ntx_nodes.specs.Fields.{kind_of, field_of}
use Rattle.ntx_nodes.specs.Heap.{Heap, IsLawful, IsInRange}
use Rattle.ntx_nodes.specs.Steps.{fields_answer}
use Rattle.ntx_nodes.specs.declared.fields.Fields.{Fields}
use Rattle.ntx_nodes.specs.Walk.{flat_walk, checked_walk}
use Rattle.ntx_nodes.specs.declared.kind.ListKind.{ListKind}
use Rattle.ntx_nodes.specs.declared.field.Field.{Field}
use Rattle.ntx_nodes.specs.declared.field.Field.TheVariants as field
use Rattle.ntx_nodes.specs.declared.field.FieldValue.TheVariants.{Number}
use Rattle.ntx_nodes.specs.declared.fields.Contents.{Contents}
use Rattle.ntx_nodes.specs.declared.fields.Contents.TheVariants as contents
use Rattle.ntx_nodes.specs.declared.node.Node.{Node}
use Rattle.ntx_nodes.specs.declared.trouble.Trouble.{Trouble}
use Rattle.ntx_num.proofs.Answers.{same_Ok, went_Ok}
use Rattle.ntx_nodes.proofs.Oks.{at_Ok}
use Rattle.ntx_tfm.specs.Font.{FontTables}
use Rattle.ntx_item.specs.declared.item.Item.{Item}
use Rattle.ntx_view.specs.View.{item_with, item_of, part_size, nodes_named, names_in, list_items, unless_missing_char, first_missing_char, items_answer}
use Rattle.ntx_view.specs.Measured.{IsMeasured, HasMeasures}

-- ---- one node
-- what is known of the fields of a kind
abbrev AreInRange : ℕ → Option ℕ → Contents → Type 0
AreInRange subtype next c = (f : Field) (x : ℤ) → field_of (record { subtype = subtype; next = next; contents = c }) f ≡ Ok (Number x) → IsInRange (kind_of c) f x

measures : (subtype : ℕ) (next : Option ℕ) (c : Contents) → AreInRange subtype next c → HasMeasures c
measures subtype next (contents.Hlist b) r =
    (record { width = r field.Width b.width refl; height = r field.Height b.height refl; depth = r field.Depth b.depth refl }, r field.Shift b.shift refl)
measures subtype next (contents.Vlist b) r =
    (record { width = r field.Width b.width refl; height = r field.Height b.height refl; depth = r field.Depth b.depth refl }, r field.Shift b.shift refl)
measures subtype next (contents.Rule b) r = record { width = r field.Width b.width refl; height = r field.Height b.height refl; depth = r field.Depth b.depth refl }
measures subtype next (contents.Glue g) r =
    let stretch = r field.StretchOrder (pos g.stretch_order) refl in
    let shrink = r field.ShrinkOrder (pos g.shrink_order) refl in
    (r field.Width g.width refl, r field.Stretch g.stretch refl, omega (arith, ints, stretch), r field.Shrink g.shrink refl, omega (arith, ints, shrink))
measures subtype next (contents.Kern w) r = r field.Kern w refl
measures subtype next (contents.Disc d) r = tt
measures subtype next (contents.Penalty p) r = r field.Penalty p refl
measures subtype next (contents.Glyph g) r = tt

pub measures_at : (heap : Heap) (n : ℕ) (fields : Fields) → IsLawful heap → fields_answer n heap ≡ Ok fields → HasMeasures fields.contents
measures_at heap n fields lawful e =
    let found = at_Ok heap n (λ node. Ok node.fields) fields e in
    let same : found.node.fields ≡ fields = same_Ok {E = Trouble} found.node.fields fields found.gives in
    subst (λ (x : Fields). HasMeasures x.contents) same (measures found.node.fields.subtype found.node.fields.next found.node.fields.contents (lawful.nodes n found.node found.is).numbers)

measured_contents : (part : Option ℕ → Size) (fonts : List FontTables) (subtype : ℕ) (c : Contents) → HasMeasures c → IsMeasured (item_with part fonts subtype c)
measured_contents part fonts subtype (contents.Hlist b) r = r
measured_contents part fonts subtype (contents.Vlist b) r = r
measured_contents part fonts subtype (contents.Rule b) r = r
measured_contents part fonts subtype (contents.Glue g) r = r.0
measured_contents part fonts subtype (contents.Kern w) r = r
measured_contents part fonts subtype (contents.Disc d) r = tt
measured_contents part fonts subtype (contents.Penalty p) r = tt
measured_contents part fonts subtype (contents.Glyph g) r = tt

measured_node : (heap : Heap) (fonts : List FontTables) (n : ℕ) (node : Node) → IsLawful heap → fin.get heap.nodes n ≡ Some node → IsMeasured (item_of heap fonts node)
measured_node heap fonts n node lawful e = measured_contents (part_size heap fonts) fonts node.fields.subtype node.fields.contents (measures node.fields.subtype node.fields.next node.fields.contents (lawful.nodes n node e).numbers)

-- ---- lists of nodes
measured_more : (heap : Heap) (fonts : List FontTables) (n : ℕ) (o : Option Node) (nodes : List Node) → IsLawful heap → fin.get heap.nodes n ≡ o → All IsMeasured (map (item_of heap fonts) nodes) → All IsMeasured (map (item_of heap fonts) (cons_option o nodes))
measured_more heap fonts n None nodes lawful e all = all
measured_more heap fonts n (Some node) nodes lawful e all = All-cons IsMeasured (item_of heap fonts node) (map (item_of heap fonts) nodes) (measured_node heap fonts n node lawful e) all

pub measured_names : (heap : Heap) (fonts : List FontTables) (names : List ℕ) → IsLawful heap → All IsMeasured (map (item_of heap fonts) (nodes_named heap names))
measured_names heap fonts [] lawful = All-nil IsMeasured
measured_names heap fonts (n ∷ ns) lawful = measured_more heap fonts n (fin.get heap.nodes n) (nodes_named heap ns) lawful refl (measured_names heap fonts ns lawful)

pub kept : (o : Option ℕ) (all items : List Item) → unless_missing_char o all ≡ Ok items → (o ≡ None) × (all ≡ items)
kept None all items e = (refl, same_Ok {E = Trouble} all items e)
kept (Some n) all items e = cc

pub heaps_are_measured_lem : (heap : Heap) (fonts : List FontTables) (head : Option ℕ) (k : ListKind) (items : List Item) → IsLawful heap → items_answer heap fonts head k ≡ Ok items → All IsMeasured items
heaps_are_measured_lem heap fonts head k items lawful e =
    let w = went_Ok (λ names. unless_missing_char (first_missing_char heap fonts names) (list_items heap fonts head)) (checked_walk heap head k) items e in
    let same = kept (first_missing_char heap fonts w.value) (list_items heap fonts head) items w.gives in
    subst (All IsMeasured) same.1 (measured_names heap fonts (names_in (flat_walk heap head)) lawful)
