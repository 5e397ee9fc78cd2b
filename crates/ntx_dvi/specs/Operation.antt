-- The operations of a DVI file ("TeX: The Program", sections 583 to 591). An operation is written whole or not at all. Distances
-- are in scaled points, rightwards and downwards.
use Rattle.std.specs.Prelude.{ℕ, ℤ}
use Rattle.ntx_tfm.specs.declared.def.FontDef.{FontDef}

pub data Operation : Type 0 where
  -- the preamble
  Begin : Operation
  -- a page with this number begins
  PageStart : ℤ → Operation
  -- the place on the page is put on the stack, and taken from there again
  Push : Operation
  Pop : Operation
  -- the place moves by this distance
  Right : ℤ → Operation
  Down : ℤ → Operation
  -- a rule of this height and width, whose left lower corner is at the place, which then moves right by the width
  Rule : ℤ → ℤ → Operation
  -- a font gets this number, from 0 to 63
  DefineFont : ℕ → FontDef → Operation
  -- the font of this number becomes the current font
  ChooseFont : ℕ → Operation
  -- the character of this code in the current font, whose reference point is at the place, which then moves right by its width
  SetCharacter : ℕ → Operation
  -- the page ends; its height plus depth, and its width
  PageEnd : ℤ → ℤ → Operation
  -- the postamble and all that follows it
  End : Operation
