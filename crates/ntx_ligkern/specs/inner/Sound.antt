-- Kerns that can be made, and pairs that name what a node may hold.
use Rattle.std.specs.Prelude.{◌≡◌, true, IsTrue}
use Rattle.ntx_num.specs.Dimension.{IsDimension}
use Rattle.ntx_nodes.specs.Heap.{Heap, is_live, IsLiveLink}
use Rattle.ntx_lists.specs.MadeNodes.{TakesLink}
use Rattle.ntx_tfm.specs.Faults.{is_ligature}
use Rattle.ntx_pairs.specs.declared.command.Pair.{Pair}
use Rattle.ntx_pairs.specs.declared.command.Pair.TheVariants as pairs
use Rattle.ntx_ligkern.specs.declared.place.Kerning.{Kerning}

-- a kern within TeX's dimensions, or one of the eight ligatures
abbrev pub IsFitPair : Pair → Type 0
IsFitPair pairs.None = Unit {0}
IsFitPair (pairs.Kern width) = IsDimension width
IsFitPair (pairs.Lig op code) = IsTrue (is_ligature op)

-- its width is within TeX's dimensions
abbrev pub IsWide : Kerning → Type 0
IsWide k = IsDimension k.width

-- The glyph on its left is live, and what follows it too; the link that is to lead to it can be set.
pub record IsPlaced (heap : Heap) (k : Kerning) : Type 0 where
  pub left : is_live heap k.left ≡ true
  pub next : IsLiveLink heap k.place.next
  pub link : TakesLink heap k.place.at k.place.field
