-- The numbers of fonts in lawful heaps.
use Rattle.std.proofs.Common.{◌≡◌, ℕ, ◌≤◌, ℤ, pos, ◌+ℤ◌, List, [], ◌∷◌, Ok, Some, refl, subst, arith}
use Rattle.std.specs.Prelude.{Option, Result}
use Rattle.std.specs.List.{All}
use Rattle.std.specs.FinMap as map
use Rattle.std.proofs.lemmas.Int.{ints}
use Rattle.std.proofs.lemmas.List.Elements.{All-nil, All-cons}
use Rattle.ntx_num.specs.Answer.{result_map, result_and_then}
use Rattle.ntx_num.proofs.Answers.{same_Ok, mapped_Ok, went_Ok}
use Rattle.ntx_nodes.specs.Fields.{kind_of, field_of}
use Rattle.ntx_nodes.specs.Heap.{Heap, IsLawful, IsInRange}
use Rattle.ntx_nodes.specs.Walk.{flat_walk}
use Rattle.ntx_nodes.specs.declared.field.Field.{Field}
use Rattle.ntx_nodes.specs.declared.field.Field.TheVariants as field
use Rattle.ntx_nodes.specs.declared.field.FieldValue.TheVariants.{Number}
use Rattle.ntx_nodes.specs.declared.fields.Contents.{Contents}
use Rattle.ntx_nodes.specs.declared.fields.Contents.TheVariants as contents
use Rattle.ntx_nodes.specs.declared.node.Node.{Node}
use Rattle.ntx_nodes.specs.declared.trouble.Trouble.{Trouble}
use Rattle.ntx_nodes.proofs.Oks.{at_Ok}
use Rattle.ntx_tfm.specs.Font.{FontTables}
use Rattle.ntx_item.specs.declared.item.Item.{Item}
use Rattle.ntx_view.specs.View.{item_of, items_answer}
use Rattle.ntx_pack.specs.Output.{move, set_size}
use Rattle.ntx_ship.specs.declared.list.Inside.{Inside}
use Rattle.ntx_ship.specs.declared.place.Place.{Place}
use Rattle.ntx_ship.specs.declared.station.Station.{Station}
use Rattle.ntx_ship.specs.Placed.{own_size, moved, stations, row_at}

-- the number of a font is at most 63
abbrev pub HasFont : Contents → Type 0
HasFont (contents.Glyph g) = g.font ≤ 63
HasFont _ = Unit {0}

abbrev pub HasItsFont : Station → Type 0
HasItsFont s = HasFont s.contents

-- what is known of the fields of a kind
abbrev AreInRange : ℕ → Option ℕ → Contents → Type 0
AreInRange subtype next c = (f : Field) (x : ℤ) → field_of (record { subtype = subtype; next = next; contents = c }) f ≡ Ok (Number x) → IsInRange (kind_of c) f x

font_in_range : (subtype : ℕ) (next : Option ℕ) (c : Contents) → AreInRange subtype next c → HasFont c
font_in_range subtype next (contents.Glyph g) r = let font = r field.Font (pos g.font) refl in omega (arith, ints, font)
font_in_range subtype next (contents.Hlist b) r = tt
font_in_range subtype next (contents.Vlist b) r = tt
font_in_range subtype next (contents.Rule b) r = tt
font_in_range subtype next (contents.Glue g) r = tt
font_in_range subtype next (contents.Kern w) r = tt
font_in_range subtype next (contents.Disc d) r = tt
font_in_range subtype next (contents.Penalty p) r = tt

font_at : (heap : Heap) (n : ℕ) (node : Node) → IsLawful heap → map.get heap.nodes n ≡ Some node → HasFont node.fields.contents
font_at heap n node lawful is = font_in_range node.fields.subtype node.fields.next node.fields.contents (lawful.nodes n node is).numbers

-- the station of a node and the rest
abbrev with_rest : Heap → List FontTables → Inside → List ℕ → ℤ → Place → Node → Result (List Station) Trouble
with_rest heap fonts inside ns total here node =
    let item = item_of heap fonts node in
    result_map (λ (rest : List Station). record { contents = node.fields.contents; here = here } ∷ rest)
    (stations heap fonts inside ns (total +ℤ move inside.glue item) (moved inside.direction (set_size inside.glue total (own_size inside.direction item) item) here))

stations_fonts : (heap : Heap) (fonts : List FontTables) (inside : Inside) (names : List ℕ) (total : ℤ) (here : Place) (row : List Station) → IsLawful heap → stations heap fonts inside names total here ≡ Ok row → All HasItsFont row
unfolding stations
stations_fonts heap fonts inside [] total here row lawful e = subst (All HasItsFont) (same_Ok {E = Trouble} [] row e) (All-nil HasItsFont)
stations_fonts heap fonts inside (n ∷ ns) total here row lawful e =
    let found = at_Ok heap n (with_rest heap fonts inside ns total here) row e in
    let item = item_of heap fonts found.node in
    let station : Station = record { contents = found.node.fields.contents; here = here } in
    let more = mapped_Ok (λ (rest : List Station). station ∷ rest) (stations heap fonts inside ns (total +ℤ move inside.glue item) (moved inside.direction (set_size inside.glue total (own_size inside.direction item) item) here)) row found.gives in
    subst (All HasItsFont) more.gives
    (All-cons HasItsFont station more.value (font_at heap n found.node lawful found.is)
    (stations_fonts heap fonts inside ns (total +ℤ move inside.glue item) (moved inside.direction (set_size inside.glue total (own_size inside.direction item) item) here) more.value lawful more.is))

pub row_fonts : (heap : Heap) (fonts : List FontTables) (inside : Inside) (here : Place) (row : List Station) → IsLawful heap → row_at heap fonts inside here ≡ Ok row → All HasItsFont row
unfolding row_at
row_fonts heap fonts inside here row lawful e =
    let a = went_Ok (λ (items : List Item). result_and_then (flat_walk heap inside.head) (λ (names : List ℕ). stations heap fonts inside names (pos 0) here)) (items_answer heap fonts inside.head inside.kind) row e in
    let b = went_Ok (λ (names : List ℕ). stations heap fonts inside names (pos 0) here) (flat_walk heap inside.head) row a.gives in
    stations_fonts heap fonts inside b.value (pos 0) here row lawful b.gives
