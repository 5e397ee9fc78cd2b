-- Pieces that are written one after another.
use Rattle.std.proofs.Common.{◌≡◌, ℕ, ◌+◌, ◌≤◌, ◌<◌, List, [], ◌∷◌, ◌++◌, length, drop, get_or, Ok, Err, refl, ap, sym, ◌∙◌, subst}
use Rattle.std.specs.Prelude.{Result, Option, Some, None, ℤ, pos, slice_get}
use Rattle.std.proofs.lemmas.Option.{slice_get_past}
use Rattle.std.proofs.lemmas.List.{at_drop_more, at_drop_all}
use Rattle.ntx_num.specs.declared.answer.Fail.{Fail}
use Rattle.ntx_num.specs.declared.answer.Fail.TheVariants.{NoMemory}
use Rattle.ntx_tfm.specs.Font.{FontTables}
use Rattle.ntx_dvi.specs.declared.full.DviFull.{DviFull}
use Rattle.ntx_dvi.specs.Operation.{Operation, PageStart, PageEnd}
use Rattle.ntx_dvi.specs.Progress.{Progress}
use Rattle.ntx_dvi.specs.Writer.{Writer}
use Rattle.ntx_dvi.specs.Written.{Writes}
use Rattle.ntx_dvi.proofs.Writing.{writes_append, writes_stop, writes_none, writes_nothing}
use Rattle.ntx_ship.specs.declared.piece.Piece.{Piece}
use Rattle.ntx_ship.specs.declared.piece.GlyphMark.{GlyphMark}
use Rattle.ntx_ship.specs.declared.place.Place.{Place}
use Rattle.ntx_ship.specs.Placed.{Page}
use Rattle.ntx_ship.specs.Drawable.{AreDrawable}
use Rattle.ntx_ship.specs.Operations.{Pen, pen_at_start, pen_after, movement, glyph_of, piece_operations, after_all, pieces_operations, page_operations}
use Rattle.ntx_ship.proofs.Leaves.{written_leaves}

pieces_nil : (fonts : List FontTables) (p : Progress) (pen : Pen) → pieces_operations fonts p pen [] ≡ []
unfolding pieces_operations
pieces_nil fonts p pen = refl

-- the operations of the pieces after one
abbrev after_one : List FontTables → Progress → Pen → Piece → List Piece → List Operation
after_one fonts p pen piece rest = pieces_operations fonts (after_all p (piece_operations fonts p pen.here piece)) (pen_after pen piece) rest

pieces_cons : (fonts : List FontTables) (p : Progress) (pen : Pen) (piece : Piece) (rest : List Piece) → pieces_operations fonts p pen (piece ∷ rest) ≡ piece_operations fonts p pen.here piece ++ after_one fonts p pen piece rest
unfolding pieces_operations
pieces_cons fonts p pen piece rest = refl

pieces_step : (fonts : List FontTables) (p : Progress) (pen : Pen) (all : List Piece) (i : ℕ) (d : Piece) → i < length all → pieces_operations fonts p pen (drop i all) ≡ piece_operations fonts p pen.here (get_or all i d) ++ after_one fonts p pen (get_or all i d) (drop (i + 1) all)
pieces_step fonts p pen all i d within =
    at_drop_more (λ (ps : List Piece). pieces_operations fonts p pen ps) all i d within ∙ pieces_cons fonts p pen (get_or all i d) (drop (i + 1) all)

-- What is written of the rest from here on completes the whole.
pub record GoesOn (fonts : List FontTables) (old : Writer) (begun : Pen) (all : List Piece) (now : Writer) (pen : Pen) (rest : List Piece) : Type 0 where
  pub writes : (result : Result (Unit {0}) (Fail DviFull)) (new : Writer) → Writes result now new (pieces_operations fonts now.progress pen rest) → Writes result old new (pieces_operations fonts old.progress begun all)

pub goes_on_first : (fonts : List FontTables) (w : Writer) (pen : Pen) (all : List Piece) → GoesOn fonts w pen all w pen all
goes_on_first fonts w pen all = record { writes = λ result new h. h }

pub goes_on : {a : Unit {0}} (fonts : List FontTables) (old : Writer) (begun : Pen) (all : List Piece) (now next : Writer) (pen after : Pen) (i : ℕ) (d : Piece) → i < length all → GoesOn fonts old begun all now pen (drop i all) → Writes (Ok a) now next (piece_operations fonts now.progress pen.here (get_or all i d)) → after ≡ pen_after pen (get_or all i d) →
    GoesOn fonts old begun all next after (drop (i + 1) all)
goes_on fonts old begun all now next pen after i d within g one moved = record {
  writes = λ result new rest.
      let first = piece_operations fonts now.progress pen.here (get_or all i d) in
      let here = subst (λ (q : Pen). Writes result next new (pieces_operations fonts next.progress q (drop (i + 1) all))) moved rest in
      let there = subst (λ (p : Progress). Writes result next new (pieces_operations fonts p (pen_after pen (get_or all i d)) (drop (i + 1) all))) (written_leaves now next first one.done) here in
      g.writes result new (subst (Writes result now new) (sym (pieces_step fonts now.progress pen all i d within)) (writes_append one there));
}

pub goes_no_farther : {e : Fail DviFull} (fonts : List FontTables) (old : Writer) (begun : Pen) (all : List Piece) (now new : Writer) (pen : Pen) (i : ℕ) (d : Piece) → i < length all → GoesOn fonts old begun all now pen (drop i all) → Writes (Err e) now new (piece_operations fonts now.progress pen.here (get_or all i d)) →
    Writes (Err e) old new (pieces_operations fonts old.progress begun all)
goes_no_farther {e = e} fonts old begun all now new pen i d within g one =
    g.writes (Err e) new (subst (Writes (Err e) now new) (sym (pieces_step fonts now.progress pen all i d within)) (writes_stop (after_one fonts now.progress pen (get_or all i d) (drop (i + 1) all)) one))

pub stops_behind : {a : Unit {0}} (fonts : List FontTables) (old : Writer) (begun : Pen) (all : List Piece) (now next : Writer) (pen : Pen) (i : ℕ) (d : Piece) → i < length all → GoesOn fonts old begun all now pen (drop i all) → Writes (Ok a) now next (piece_operations fonts now.progress pen.here (get_or all i d)) →
    Writes (Err NoMemory) old next (pieces_operations fonts old.progress begun all)
stops_behind fonts old begun all now next pen i d within g one =
    g.writes (Err NoMemory) next (subst (Writes (Err NoMemory) now next) (sym (pieces_step fonts now.progress pen all i d within)) (writes_append one (writes_none next (after_one fonts now.progress pen (get_or all i d) (drop (i + 1) all)))))

pub goes_to_the_end : (a : Unit {0}) (fonts : List FontTables) (old : Writer) (begun : Pen) (all : List Piece) (now : Writer) (pen : Pen) (i : ℕ) → length all ≤ i → GoesOn fonts old begun all now pen (drop i all) → Writes (Ok a) old now (pieces_operations fonts old.progress begun all)
goes_to_the_end a fonts old begun all now pen i past g =
    g.writes (Ok a) now
    (subst (Writes (Ok a) now now) (sym (at_drop_all (λ (ps : List Piece). pieces_operations fonts now.progress pen ps) all i past ∙ pieces_nil fonts now.progress pen)) (writes_nothing a now))

-- ---- pieces that can be drawn

-- What is left begins with a piece that can be drawn.
pub next_drawable : (pushed : ℕ) (all : List Piece) (i : ℕ) (d : Piece) → i < length all → AreDrawable pushed (drop i all) → AreDrawable pushed (get_or all i d ∷ drop (i + 1) all)
next_drawable pushed all i d within left = subst (AreDrawable pushed) (at_drop_more (λ (ps : List Piece). ps) all i d within) left

pub none_drawable : (pushed : ℕ) (all : List Piece) (i : ℕ) → length all ≤ i → AreDrawable pushed (drop i all) → pushed ≡ 0
none_drawable pushed all i past left = subst (AreDrawable pushed) (at_drop_all (λ (ps : List Piece). ps) all i past) left

-- ---- one character

-- A movement leaves the fonts as they were.
moved_keeps : (p : Progress) (here : Place) (h v : ℤ) (m : GlyphMark) (o : Option FontTables) → glyph_of (after_all p (movement here h v)) m o ≡ glyph_of p m o
moved_keeps p here h v m None = refl
moved_keeps p here h v m (Some font) = refl

pub glyph_written : {a : Unit {0}} {result : Result (Unit {0}) (Fail DviFull)} {old mid new : Writer} (here : Place) (m : GlyphMark) (o : Option FontTables) → Writes (Ok a) old mid (movement here m.h m.v) → Writes result mid new (glyph_of mid.progress m o) → Writes result old new (movement here m.h m.v ++ glyph_of old.progress m o)
glyph_written {result = result} {old = old} {mid = mid} {new = new} here m o moved set =
    let leaves : mid.progress ≡ after_all old.progress (movement here m.h m.v) = written_leaves old mid (movement here m.h m.v) moved.done in
    writes_append moved (subst (Writes result mid new) (ap (λ (p : Progress). glyph_of p m o) leaves ∙ moved_keeps old.progress here m.h m.v m o) set)

-- Nothing is written of a font that is not there.
pub no_glyph : (a : Unit {0}) (w : Writer) (m : GlyphMark) (fonts : List FontTables) (i : ℕ) → i ≡ m.font → length fonts ≤ i → Writes (Ok a) w w (glyph_of w.progress m (slice_get fonts m.font))
no_glyph a w m fonts i at past =
    rw (slice_get_past fonts m.font (subst (λ (k : ℕ). length fonts ≤ k) at past)) (writes_nothing a w)

-- ---- pages

-- the beginning of the next page
abbrev start_of : Progress → Operation
start_of p = PageStart (pos (p.pages + 1))

pub page_drawn : {a b : Unit {0}} {result : Result (Unit {0}) (Fail DviFull)} {old begun drawn new : Writer} (fonts : List FontTables) (page : Page) → Writes (Ok a) old begun (PageStart (pos (old.progress.pages + 1)) ∷ []) → Writes (Ok b) begun drawn (pieces_operations fonts begun.progress pen_at_start page.pieces) → Writes result drawn new (PageEnd page.total page.width ∷ []) →
    Writes result old new (page_operations fonts old.progress page)
page_drawn {b = b} {old = old} {begun = begun} {drawn = drawn} fonts page first pieces last =
    let leaves : begun.progress ≡ after_all old.progress (start_of old.progress ∷ []) = written_leaves old begun (start_of old.progress ∷ []) first.done in
    writes_append first (writes_append (subst (λ (p : Progress). Writes (Ok b) begun drawn (pieces_operations fonts p pen_at_start page.pieces)) leaves pieces) last)

pub page_stopped : {a : Unit {0}} {e : Fail DviFull} {old begun new : Writer} (fonts : List FontTables) (page : Page) → Writes (Ok a) old begun (PageStart (pos (old.progress.pages + 1)) ∷ []) → Writes (Err e) begun new (pieces_operations fonts begun.progress pen_at_start page.pieces) →
    Writes (Err e) old new (page_operations fonts old.progress page)
page_stopped {e = e} {old = old} {begun = begun} {new = new} fonts page first pieces =
    let leaves : begun.progress ≡ after_all old.progress (start_of old.progress ∷ []) = written_leaves old begun (start_of old.progress ∷ []) first.done in
    writes_append first (writes_stop (PageEnd page.total page.width ∷ []) (subst (λ (p : Progress). Writes (Err e) begun new (pieces_operations fonts p pen_at_start page.pieces)) leaves pieces))
