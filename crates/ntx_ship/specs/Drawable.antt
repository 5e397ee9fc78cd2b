-- Pieces that can be drawn one after another.
use Rattle.std.specs.Prelude.{◌≡◌, ℕ, ◌+◌, ◌-◌, ◌<◌, ◌≤◌, ◌^◌, ℤ, ◌+ℤ◌, List, [], ◌∷◌}
use Rattle.ntx_num.specs.Dimension.{IsDimension}
use Rattle.ntx_ship.specs.declared.piece.Piece.{Piece}
use Rattle.ntx_ship.specs.declared.piece.Piece.TheVariants.{Push, Pop, Glyph, Rule}

-- the place of a mark, and the end of its width, are dimensions
pub record IsStanding (h v width : ℤ) : Type 0 where
  pub right : IsDimension h
  pub down : IsDimension v
  pub end : IsDimension (h +ℤ width)

-- A mark stands within a dimension, and the number of a font is at most 63.
abbrev pub HasPlace : Piece → Type 0
HasPlace (Glyph m) = IsStanding m.h m.v m.width × (m.font ≤ 63)
HasPlace (Rule m) = IsStanding m.h m.v m.width
HasPlace _ = Unit {0}

-- A box that ends has begun, and no more than 65535 are open at once.
abbrev pub IsNested : ℕ → Piece → Type 0
IsNested pushed Push = pushed < 2 ^ 16 - 1
IsNested pushed Pop = 0 < pushed
IsNested pushed _ = Unit {0}

-- how many boxes are open after a piece
abbrev pub pushed_after : ℕ → Piece → ℕ
pushed_after pushed Push = pushed + 1
pushed_after pushed Pop = pushed - 1
pushed_after pushed _ = pushed

-- Where so many boxes are open, each piece has a place and is nested, and no box is open at the end.
abbrev pub AreDrawable : ℕ → List Piece → Type 0
AreDrawable pushed [] = pushed ≡ 0
AreDrawable pushed (p ∷ ps) = HasPlace p × IsNested pushed p × AreDrawable (pushed_after pushed p) ps
