-- What is written of a page into a DVI file ("TeX: The Program", sections 617 to 640).
--     page_operations p fonts page      the operations of a page, in a file that has come as far as p
-- A place on the page is kept beside the operations. It begins in the upper left corner. Before each mark it moves there, first to the right and then down.
-- Then it is at the end of the mark's width. The end of a box brings back the place where the box began.
use Rattle.std.specs.Prelude.{ℕ, ◌+◌, pos, ◌+ℤ◌, ◌-ℤ◌, ℤ, List, [], ◌∷◌, ◌++◌, slice_get, Option, None, Some}
use Rattle.std.specs.List.{fold}
use Rattle.std.specs.Option.{option_map}
use Rattle.ntx_num.specs.Dimension.{IsDimension}
use Rattle.ntx_tfm.specs.Font.{FontTables}
use Rattle.ntx_tfm.specs.declared.def.FontDef.{FontDef}
use Rattle.ntx_dvi.specs.Operation as dvi
use Rattle.ntx_dvi.specs.Progress.{Progress}
use Rattle.ntx_dvi.specs.File as file
use Rattle.ntx_dvi.specs.Fonts.{glyph_operations}
use Rattle.ntx_ship.specs.declared.piece.GlyphMark.{GlyphMark}
use Rattle.ntx_ship.specs.declared.piece.RuleMark.{RuleMark}
use Rattle.ntx_ship.specs.declared.piece.Piece.{Piece}
use Rattle.ntx_ship.specs.declared.piece.Piece.TheVariants.{Push, Pop, Glyph, Rule}
use Rattle.ntx_ship.specs.declared.place.Place.{Place}
use Rattle.ntx_ship.specs.Placed.{Page, page_corner}

-- ---- the place on the page

-- the place now, and the places where the open boxes began, the last box first
pub record Pen : Type 0 where
  pub here : Place
  pub begun : List Place

-- the place at the start of a page
abbrev pub pen_at_start : Pen
pen_at_start = record { here = page_corner; begun = [] }

-- after the end of a box
abbrev pub pen_back : List Place → Pen
pen_back [] = pen_at_start
pen_back (place ∷ places) = record { here = place; begun = places }

-- after a mark of this width
abbrev pub end_of : ℤ → ℤ → ℤ → Place
end_of h v width = record { h = h +ℤ width; v = v }

abbrev pub pen_after : Pen → Piece → Pen
pen_after pen Push = record pen { begun = pen.here ∷ pen.begun }
pen_after pen Pop = pen_back pen.begun
pen_after pen (Glyph m) = record pen { here = end_of m.h m.v m.width }
pen_after pen (Rule m) = record pen { here = end_of m.h m.v m.width }

-- ---- operations

abbrev pub movement : Place → ℤ → ℤ → List dvi.Operation
movement here h v = dvi.Right (h -ℤ here.h) ∷ dvi.Down (v -ℤ here.v) ∷ []

-- a character of a font that is there
abbrev pub glyph_of : Progress → GlyphMark → Option FontTables → List dvi.Operation
glyph_of p m None = []
glyph_of p m (Some font) = glyph_operations p m.font font.def m.code

abbrev pub mark_glyph : List FontTables → Progress → Place → GlyphMark → List dvi.Operation
mark_glyph fonts p here m = movement here m.h m.v ++ glyph_of p m (slice_get fonts m.font)

abbrev pub mark_rule : Place → RuleMark → List dvi.Operation
mark_rule here m = movement here m.h m.v ++ dvi.Rule m.height m.width ∷ []

abbrev pub piece_operations : List FontTables → Progress → Place → Piece → List dvi.Operation
piece_operations fonts p here Push = dvi.Push ∷ []
piece_operations fonts p here Pop = dvi.Pop ∷ []
piece_operations fonts p here (Glyph m) = mark_glyph fonts p here m
piece_operations fonts p here (Rule m) = mark_rule here m

-- what operations leave
abbrev pub after_all : Progress → List dvi.Operation → Progress
after_all p operations = fold file.after p operations

unfoldable pub pieces_operations : List FontTables → Progress → Pen → List Piece → List dvi.Operation
pieces_operations fonts p pen [] = []
pieces_operations fonts p pen (piece ∷ pieces) =
    let first = piece_operations fonts p pen.here piece in first ++ pieces_operations fonts (after_all p first) (pen_after pen piece) pieces

-- The pages are numbered from 1.
abbrev pub page_operations : List FontTables → Progress → Page → List dvi.Operation
page_operations fonts p page =
    let first = dvi.PageStart (pos (p.pages + 1)) in
    first ∷ pieces_operations fonts (file.after p first) pen_at_start page.pieces ++ dvi.PageEnd page.total page.width ∷ []

-- ---- what can be written

-- the definition of the font of a number
abbrev pub definition_at : List FontTables → ℕ → Option FontDef
definition_at fonts number = option_map (λ font. font.def) (slice_get fonts number)

-- a place whose distances are dimensions
pub record IsOnPage (at : Place) : Type 0 where
  pub h : IsDimension at.h
  pub v : IsDimension at.v
