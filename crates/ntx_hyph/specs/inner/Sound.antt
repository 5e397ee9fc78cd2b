-- Gaps in which discretionaries can be made.
use Rattle.std.specs.Prelude.{◌≡◌, ◌≤◌, true}
use Rattle.ntx_nodes.specs.Heap.{Heap, is_live}
use Rattle.ntx_hyph.specs.declared.letter.Gap.{Gap}

-- the nodes at the sides of a gap are live, and its font is one of a glyph
pub record IsSound (heap : Heap) (gap : Gap) : Type 0 where
  pub before : is_live heap gap.before ≡ true
  pub after : is_live heap gap.after ≡ true
  pub font : gap.font ≤ 63
