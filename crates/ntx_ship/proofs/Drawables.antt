-- The pieces of a page can be drawn one after another.
use Rattle.std.proofs.Common.{◌≡◌, ℕ, zero, suc, ◌+◌, ◌-◌, ◌≤◌, ℤ, pos, ◌+ℤ◌, Bool, true, false, ◌&&◌, List, [], ◌∷◌, ◌++◌, Ok, Err, refl, sym, subst, append_assoc, append-nil, arith}
use Rattle.std.specs.Prelude.{if◌then◌else◌, int_lt, unwrap_or}
use Rattle.ntx_num.specs.Answer.{result_map}
use Rattle.ntx_num.specs.Dimension.{is_dimension}
use Rattle.ntx_num.proofs.Answers.{same_Ok, mapped_Ok, went_Ok, taken}
use Rattle.std.specs.List.{All}
use Rattle.ntx_nodes.specs.Heap.{Heap, IsLawful}
use Rattle.ntx_nodes.specs.declared.contents.GlyphFields.{GlyphFields}
use Rattle.ntx_nodes.specs.declared.fields.Contents.{Contents}
use Rattle.ntx_nodes.specs.declared.fields.Contents.TheVariants as contents
use Rattle.ntx_nodes.specs.declared.trouble.Trouble.{Trouble}
use Rattle.ntx_nodes.specs.declared.trouble.Trouble.TheVariants.{Dimension}
use Rattle.ntx_tfm.specs.Font.{FontTables}
use Rattle.ntx_view.specs.View.{char_size, no_size}
use Rattle.ntx_pack.specs.declared.direction.Direction.{Direction}
use Rattle.ntx_ship.specs.declared.list.Inside.{Inside}
use Rattle.ntx_ship.specs.declared.piece.Piece.{Piece}
use Rattle.ntx_ship.specs.declared.piece.Piece.TheVariants.{Pop, Glyph, Rule}
use Rattle.ntx_ship.specs.declared.place.Place.{Place}
use Rattle.ntx_ship.specs.declared.station.Station.{Station}
use Rattle.ntx_ship.specs.Placed.{Pieces, Placer, joined, may_stand, glyph_mark, rule_mark, grouped, reference, top, corner, hlist_inside, vlist_inside, part_inside, node_pieces, row_pieces, row_at, list_pieces, max_levels}
use Rattle.std.proofs.lemmas.List.Elements.{All-head, All-tail}
use Rattle.ntx_ship.proofs.Marks.{both, dimension_is}
use Rattle.ntx_ship.proofs.Numbers.{HasFont, HasItsFont, row_fonts}
use Rattle.ntx_ship.specs.Drawable.{IsStanding, AreDrawable}

-- Pieces of so many levels of boxes go before any others that can be drawn.
abbrev pub GoFirst : ℕ → List Piece → Type 0
GoFirst levels xs = (pushed : ℕ) (rest : List Piece) → pushed + levels ≤ 200 → AreDrawable pushed rest → AreDrawable pushed (xs ++ rest)

deeper : (levels : ℕ) (xs : List Piece) → GoFirst levels xs → GoFirst (suc levels) xs
deeper levels xs g pushed rest few drawable = g pushed rest (omega arith) drawable

first_nil : (levels : ℕ) → GoFirst levels []
first_nil levels pushed rest few drawable = drawable

first_append : (levels : ℕ) (xs ys : List Piece) → GoFirst levels xs → GoFirst levels ys → GoFirst levels (xs ++ ys)
first_append levels xs ys one two pushed rest few drawable =
    subst (AreDrawable pushed) (sym (append_assoc xs ys rest)) (one pushed (ys ++ rest) few (two pushed rest few drawable))

first_grouped : (levels : ℕ) (xs : List Piece) → GoFirst levels xs → GoFirst (suc levels) (grouped xs)
first_grouped levels [] g pushed rest few drawable = drawable
first_grouped levels (p ∷ ps) g pushed rest few drawable =
    let back : pushed ≡ pushed + 1 - 1 = omega arith in
    let end : AreDrawable (pushed + 1) (Pop ∷ rest) = (tt, omega arith, subst (λ (k : ℕ). AreDrawable k rest) back drawable) in
    (tt, omega arith, subst (AreDrawable (pushed + 1)) (sym (append_assoc (p ∷ ps) (Pop ∷ []) rest)) (g (pushed + 1) (Pop ∷ rest) (omega arith) end))

-- ---- marks

standing : (here : Place) (width : ℤ) → may_stand here width ≡ true → IsStanding here.h here.v width
unfolding may_stand
standing here width e =
    let a = both (is_dimension here.h && is_dimension here.v) (is_dimension (here.h +ℤ width)) e in
    let b = both (is_dimension here.h) (is_dimension here.v) a.0 in
    record { right = dimension_is here.h b.0; down = dimension_is here.v b.1; end = dimension_is (here.h +ℤ width) a.1 }

glyph_first : (levels : ℕ) (here : Place) (g : GlyphFields) (width : ℤ) (xs : List Piece) → g.font ≤ 63 → glyph_mark here g width ≡ Ok xs → GoFirst levels xs
unfolding glyph_mark
glyph_first levels here g width xs font e =
    let mark = Glyph (record { h = here.h; v = here.v; font = g.font; code = g.char; width = width }) in
    let t = taken (may_stand here width) Dimension (Ok (mark ∷ [])) xs e in
    subst (GoFirst levels) (same_Ok {E = Trouble} (mark ∷ []) xs t.1) (λ pushed rest few drawable. ((standing here width t.0, font), tt, drawable))

rule_first_by : (b : Bool) (levels : ℕ) (here : Place) (height width : ℤ) (xs : List Piece) →
    (if b then (if may_stand here width then Ok (Rule (record { h = here.h; v = here.v; height = height; width = width }) ∷ []) else Err Dimension) else Ok []) ≡ Ok xs → GoFirst levels xs
rule_first_by true levels here height width xs e =
    let mark = Rule (record { h = here.h; v = here.v; height = height; width = width }) in
    let t = taken (may_stand here width) Dimension (Ok (mark ∷ [])) xs e in
    subst (GoFirst levels) (same_Ok {E = Trouble} (mark ∷ []) xs t.1) (λ pushed rest few drawable. (standing here width t.0, tt, drawable))
rule_first_by false levels here height width xs e = subst (GoFirst levels) (same_Ok {E = Trouble} [] xs e) (first_nil levels)

rule_first : (levels : ℕ) (here : Place) (height width : ℤ) (xs : List Piece) → rule_mark here height width ≡ Ok xs → GoFirst levels xs
unfolding rule_mark
rule_first levels here height width xs e = rule_first_by (int_lt (pos 0) width && int_lt (pos 0) height) levels here height width xs e

-- ---- nodes

-- a placer whose pieces go first
abbrev Places : ℕ → Placer → Type 0
Places levels place = (inside : Inside) (here : Place) (xs : List Piece) → place inside here ≡ Ok xs → GoFirst levels xs

box_first : (levels : ℕ) (place : Placer) → Places levels place → (inside : Inside) (here : Place) (xs : List Piece) → result_map grouped (place inside here) ≡ Ok xs → GoFirst (suc levels) xs
box_first levels place good inside here xs e =
    let m = mapped_Ok grouped (place inside here) xs e in
    subst (GoFirst (suc levels)) m.gives (first_grouped levels m.value (good inside here m.value m.is))

node_first : (fonts : List FontTables) (levels : ℕ) (place : Placer) → Places levels place → (direction : Direction) (c : Contents) (here : Place) (xs : List Piece) → HasFont c → node_pieces fonts place direction c here ≡ Ok xs → GoFirst (suc levels) xs
unfolding node_pieces
node_first fonts levels place good direction (contents.Hlist b) here xs font e = box_first levels place good (hlist_inside b) (reference direction b here) xs e
node_first fonts levels place good direction (contents.Vlist b) here xs font e = box_first levels place good (vlist_inside b) (top b (reference direction b here)) xs e
node_first fonts levels place good direction (contents.Rule r) here xs font e = rule_first (suc levels) (corner direction r here) (r.height +ℤ r.depth) r.width xs e
node_first fonts levels place good direction (contents.Glyph g) here xs font e = glyph_first (suc levels) here g (unwrap_or (char_size fonts g) no_size).w xs font e
node_first fonts levels place good direction (contents.Disc d) here xs font e = deeper levels xs (good (part_inside d.replace) here xs e)
node_first fonts levels place good direction (contents.Glue g) here xs font e = subst (GoFirst (suc levels)) (same_Ok {E = Trouble} [] xs e) (first_nil (suc levels))
node_first fonts levels place good direction (contents.Kern w) here xs font e = subst (GoFirst (suc levels)) (same_Ok {E = Trouble} [] xs e) (first_nil (suc levels))
node_first fonts levels place good direction (contents.Penalty p) here xs font e = subst (GoFirst (suc levels)) (same_Ok {E = Trouble} [] xs e) (first_nil (suc levels))

-- ---- lists

pub record Joined (first rest : Pieces) (all : List Piece) : Type 0 where
  pub xs : List Piece
  pub ys : List Piece
  pub first_is : first ≡ Ok xs
  pub rest_is : rest ≡ Ok ys
  pub together : xs ++ ys ≡ all

joined_Ok : (first rest : Pieces) (all : List Piece) → joined first rest ≡ Ok all → Joined first rest all
joined_Ok (Ok xs) (Ok ys) all e = record { xs = xs; ys = ys; first_is = refl; rest_is = refl; together = same_Ok {E = Trouble} (xs ++ ys) all e }
joined_Ok (Ok xs) (Err why) all e = cc
joined_Ok (Err why) rest all e = cc

row_first : (fonts : List FontTables) (levels : ℕ) (place : Placer) → Places levels place → (direction : Direction) (row : List Station) (xs : List Piece) → All HasItsFont row → row_pieces fonts place direction row ≡ Ok xs → GoFirst (suc levels) xs
row_first fonts levels place good direction [] xs known e = subst (GoFirst (suc levels)) (same_Ok {E = Trouble} [] xs e) (first_nil (suc levels))
row_first fonts levels place good direction (s ∷ ss) xs known e =
    let j = joined_Ok (node_pieces fonts place direction s.contents s.here) (row_pieces fonts place direction ss) xs e in
    subst (GoFirst (suc levels)) j.together
    (first_append (suc levels) j.xs j.ys (node_first fonts levels place good direction s.contents s.here j.xs (All-head HasItsFont s ss known) j.first_is) (row_first fonts levels place good direction ss j.ys (All-tail HasItsFont s ss known) j.rest_is))

pub list_first : (heap : Heap) (fonts : List FontTables) (levels : ℕ) (inside : Inside) (here : Place) (xs : List Piece) → IsLawful heap → list_pieces heap fonts levels inside here ≡ Ok xs → GoFirst levels xs
unfolding list_pieces
list_first heap fonts zero inside here xs lawful e = cc
list_first heap fonts (suc levels) inside here xs lawful e =
    let w = went_Ok (row_pieces fonts (list_pieces heap fonts levels) inside.direction) (row_at heap fonts inside here) xs e in
    row_first fonts levels (list_pieces heap fonts levels) (λ more at ys h. list_first heap fonts levels more at ys lawful h) inside.direction w.value xs (row_fonts heap fonts inside here w.value lawful w.is) w.gives

-- ---- pages

-- The pieces of a list that stands by itself can be drawn.
pub list_drawable : (heap : Heap) (fonts : List FontTables) (inside : Inside) (here : Place) (xs : List Piece) → IsLawful heap → list_pieces heap fonts max_levels inside here ≡ Ok xs → AreDrawable 0 xs
list_drawable heap fonts inside here xs lawful e =
    subst (AreDrawable 0) (append-nil xs) (list_first heap fonts max_levels inside here xs lawful e 0 [] (omega arith) refl)
