-- Glyphs, and what their fonts say of two of them that stand side by side ("TeX: The Program", sections 545, 1039 and 1040).
--     glyph_at heap n                        the node of this name as a glyph, if it is one
--     pair_between fonts heap left right     the pair of two nodes: nothing unless both are there, both are glyphs, they have one font, and that is there
-- The number of a font is its place in the list of fonts, counted from 0.
use Rattle.std.specs.Prelude.{ℕ, nat_eq, if◌then◌else◌, List, slice_get, Option, None, Some}
use Rattle.std.specs.Option.{option_and_then}
use Rattle.std.specs.FinMap as fin
use Rattle.ntx_nodes.specs.Heap.{Heap}
use Rattle.ntx_nodes.specs.declared.fields.Contents.{Contents}
use Rattle.ntx_nodes.specs.declared.fields.Contents.TheVariants as contents
use Rattle.ntx_tfm.specs.Font.{FontTables}
use Rattle.ntx_pairs.specs.Pairs.{pair_of}
use Rattle.ntx_pairs.specs.declared.command.Pair.{Pair}
use Rattle.ntx_pairs.specs.declared.command.Pair.TheVariants as pairs
use Rattle.ntx_ligkern.specs.declared.glyph.Glyph.{Glyph}

abbrev pub glyph_of : Contents → Option Glyph
glyph_of (contents.Glyph g) = Some (record { code = g.char; font = g.font })
glyph_of _ = None

abbrev pub glyph_at : Heap → ℕ → Option Glyph
glyph_at heap n = option_and_then (λ node. glyph_of node.fields.contents) (fin.get heap.nodes n)

-- ---- pairs
abbrev pub pair_in : Option FontTables → ℕ → ℕ → Pair
pair_in None left right = pairs.None
pair_in (Some font) left right = pair_of font left right

abbrev pub pair_of_glyphs : List FontTables → Glyph → Glyph → Pair
pair_of_glyphs fonts left right = if nat_eq left.font right.font then pair_in (slice_get fonts left.font) left.code right.code else pairs.None

abbrev pub pair_of_two : List FontTables → Option Glyph → Option Glyph → Pair
pair_of_two fonts (Some left) (Some right) = pair_of_glyphs fonts left right
pair_of_two fonts _ _ = pairs.None

abbrev pub pair_between : List FontTables → Heap → Option ℕ → Option ℕ → Pair
pair_between fonts heap (Some left) (Some right) = pair_of_two fonts (glyph_at heap left) (glyph_at heap right)
pair_between fonts heap _ _ = pairs.None
