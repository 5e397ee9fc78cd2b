-- The steps by which a list is placed.
use Rattle.std.proofs.Common.{◌≡◌, ℕ, zero, suc, ◌+◌, ◌-◌, ◌^◌, pos, ◌+ℤ◌, List, None, Ok, Err, refl, sym, subst, arith}
use Rattle.std.specs.Prelude.{Result, unwrap_or}
use Rattle.ntx_num.specs.Answer.{Answers, result_map}
use Rattle.ntx_num.specs.declared.answer.Fail.{Fail}
use Rattle.ntx_num.specs.declared.answer.Fail.TheVariants.{NoMemory, Is}
use Rattle.ntx_nodes.specs.Heap.{Heap}
use Rattle.ntx_nodes.specs.declared.contents.BoxFields.{BoxFields}
use Rattle.ntx_nodes.specs.declared.contents.RuleFields.{RuleFields}
use Rattle.ntx_nodes.specs.declared.contents.DiscFields.{DiscFields}
use Rattle.ntx_nodes.specs.declared.contents.GlyphFields.{GlyphFields}
use Rattle.ntx_nodes.specs.declared.fields.Contents.{Contents}
use Rattle.ntx_nodes.specs.declared.fields.Contents.TheVariants as contents
use Rattle.ntx_nodes.specs.declared.trouble.Trouble.{Trouble}
use Rattle.ntx_tfm.specs.Font.{FontTables}
use Rattle.ntx_view.specs.View.{char_size, no_size}
use Rattle.ntx_pack.specs.declared.direction.Direction.{Direction}
use Rattle.ntx_ship.specs.declared.list.Inside.{Inside}
use Rattle.ntx_ship.specs.declared.piece.Piece.{Piece}
use Rattle.ntx_ship.specs.declared.place.Place.{Place}
use Rattle.ntx_ship.specs.declared.station.Station.{Station}
use Rattle.ntx_ship.specs.Placed.{Placer, glyph_mark, rule_mark, grouped, reference, top, corner, hlist_inside, vlist_inside, part_inside, node_pieces, row_at, list_pieces}
use Rattle.std.specs.List.{All}
use Rattle.ntx_ship.specs.inner.Reach.{IsPlaced, StandsWithin, reach}
use Rattle.ntx_ship.specs.inner.Adding.{Adds}
use Rattle.ntx_ship.proofs.Adds.{list_refused, adds_nothing, adds_no_memory}

-- A list whose nodes cannot be found is refused so.
pub list_error : {e : Fail Trouble} (heap : Heap) (fonts : List FontTables) (levels lower : ℕ) (inside : Inside) (here : Place) (old new : List Piece) → levels ≡ suc lower → Answers {A = List Station} (Err e) (row_at heap fonts inside here) → Adds (Err e) old new (list_pieces heap fonts levels inside here)
list_error {e = Is why} heap fonts levels lower inside here old new is refused = list_refused heap fonts levels lower inside here why old new is refused
list_error {e = NoMemory} heap fonts levels lower inside here old new is refused = adds_no_memory old new (list_pieces heap fonts levels inside here)

-- ---- one node

node_as : {result : Result (Unit {0}) (Fail Trouble)} {old new : List Piece} (fonts : List FontTables) (place : Placer) (direction : Direction) (c d : Contents) (here : Place) → c ≡ d → Adds result old new (node_pieces fonts place direction d here) → Adds result old new (node_pieces fonts place direction c here)
node_as {result = result} {old = old} {new = new} fonts place direction c d here e adds = subst (λ (x : Contents). Adds result old new (node_pieces fonts place direction x here)) (sym e) adds

pub node_hlist : {result : Result (Unit {0}) (Fail Trouble)} {old new : List Piece} (fonts : List FontTables) (place : Placer) (direction : Direction) (b : BoxFields) (inside : Inside) (c : Contents) (at here : Place) → c ≡ contents.Hlist b → inside ≡ hlist_inside b → at ≡ reference direction b here → Adds result old new (result_map grouped (place inside at)) → Adds result old new (node_pieces fonts place direction c here)
unfolding node_pieces
node_hlist {result = result} {old = old} {new = new} fonts place direction b inside c at here e list is adds =
    node_as fonts place direction c (contents.Hlist b) here e
    (subst (λ (x : Inside). Adds result old new (result_map grouped (place x (reference direction b here)))) list (subst (λ (x : Place). Adds result old new (result_map grouped (place inside x))) is adds))

pub node_vlist : {result : Result (Unit {0}) (Fail Trouble)} {old new : List Piece} (fonts : List FontTables) (place : Placer) (direction : Direction) (b : BoxFields) (inside : Inside) (c : Contents) (at here : Place) → c ≡ contents.Vlist b → inside ≡ vlist_inside b → at ≡ top b (reference direction b here) → Adds result old new (result_map grouped (place inside at)) → Adds result old new (node_pieces fonts place direction c here)
unfolding node_pieces
node_vlist {result = result} {old = old} {new = new} fonts place direction b inside c at here e list is adds =
    node_as fonts place direction c (contents.Vlist b) here e
    (subst (λ (x : Inside). Adds result old new (result_map grouped (place x (top b (reference direction b here))))) list (subst (λ (x : Place). Adds result old new (result_map grouped (place inside x))) is adds))

pub node_rule : {result : Result (Unit {0}) (Fail Trouble)} {old new : List Piece} (fonts : List FontTables) (place : Placer) (direction : Direction) (r : RuleFields) (c : Contents) (here : Place) → c ≡ contents.Rule r → Adds result old new (rule_mark (corner direction r here) (r.height +ℤ r.depth) r.width) → Adds result old new (node_pieces fonts place direction c here)
unfolding node_pieces
node_rule fonts place direction r c here e adds = node_as fonts place direction c (contents.Rule r) here e adds

pub node_glyph : {result : Result (Unit {0}) (Fail Trouble)} {old new : List Piece} (fonts : List FontTables) (place : Placer) (direction : Direction) (g : GlyphFields) (c : Contents) (here : Place) → c ≡ contents.Glyph g → Adds result old new (glyph_mark here g (unwrap_or (char_size fonts g) no_size).w) → Adds result old new (node_pieces fonts place direction c here)
unfolding node_pieces
node_glyph fonts place direction g c here e adds = node_as fonts place direction c (contents.Glyph g) here e adds

pub node_disc : {result : Result (Unit {0}) (Fail Trouble)} {old new : List Piece} (fonts : List FontTables) (place : Placer) (direction : Direction) (d : DiscFields) (inside : Inside) (c : Contents) (here : Place) → c ≡ contents.Disc d → inside ≡ part_inside d.replace → Adds result old new (place inside here) → Adds result old new (node_pieces fonts place direction c here)
unfolding node_pieces
node_disc {result = result} {old = old} {new = new} fonts place direction d inside c here e list adds =
    node_as fonts place direction c (contents.Disc d) here e (subst (λ (x : Inside). Adds result old new (place x here)) list adds)

pub node_other : (a : Unit {0}) (old : List Piece) (fonts : List FontTables) (place : Placer) (direction : Direction) (c : Contents) (here : Place) → ((b : BoxFields) → c ≡ contents.Hlist b → ⊥) → ((b : BoxFields) → c ≡ contents.Vlist b → ⊥) → ((r : RuleFields) → c ≡ contents.Rule r → ⊥) → ((d : DiscFields) → c ≡ contents.Disc d → ⊥) → ((g : GlyphFields) → c ≡ contents.Glyph g → ⊥) → Adds (Ok a) old old (node_pieces fonts place direction c here)
unfolding node_pieces
node_other a old fonts place direction (contents.Hlist b) here nh nv nr nd ng = absurd (nh b refl)
node_other a old fonts place direction (contents.Vlist b) here nh nv nr nd ng = absurd (nv b refl)
node_other a old fonts place direction (contents.Rule r) here nh nv nr nd ng = absurd (nr r refl)
node_other a old fonts place direction (contents.Disc d) here nh nv nr nd ng = absurd (nd d refl)
node_other a old fonts place direction (contents.Glyph g) here nh nv nr nd ng = absurd (ng g refl)
node_other a old fonts place direction (contents.Glue g) here nh nv nr nd ng = adds_nothing a old
node_other a old fonts place direction (contents.Kern w) here nh nv nr nd ng = adds_nothing a old
node_other a old fonts place direction (contents.Penalty p) here nh nv nr nd ng = adds_nothing a old

pub suc_less : (levels : ℕ) → (levels ≡ 0 → ⊥) → levels ≡ suc (levels - 1)
suc_less zero h = absurd (h refl)
suc_less (suc n) h = omega arith

-- The nodes of a list stand where its boxes may.
pub row_fits : (levels : ℕ) (here : Place) (row same : List Station) → same ≡ row → ((most : ℕ) → IsPlaced most here → All (StandsWithin (most + 2 ^ 51)) row) → IsPlaced (reach levels) here → All (StandsWithin (reach levels + 2 ^ 51)) same
row_fits levels here row same e within near = subst (λ (ss : List Station). All (StandsWithin (reach levels + 2 ^ 51)) ss) (sym e) (within (reach levels) near)

-- what stands past the end of a list
abbrev pub no_station : Station
no_station = record { contents = contents.Hlist (record { width = pos 0; height = pos 0; depth = pos 0; shift = pos 0; list = None; glue_sign = 0; glue_order = 0; glue_num = pos 0; glue_den = pos 0 }); here = record { h = pos 0; v = pos 0 } }
