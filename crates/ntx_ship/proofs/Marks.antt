-- Marks that stand within a dimension.
use Rattle.std.proofs.Common.{◌≡◌, ℤ, pos, Bool, true, false, ◌&&◌, cond, [], ◌∷◌, Ok, Err, refl, sym, ap, ◌∙◌, ◌≤◌, ◌^◌, to_z, of_z, w32, w64, arith}
use Rattle.std.specs.Prelude.{int_lt, int_le, neg_ℤ, ◌≤ℤ◌}
use Rattle.std.specs.Int.RustNames.{unsigned_abs}
use Rattle.std.proofs.lemmas.Int.{ints}
use Rattle.ntx_num.specs.Dimension.{is_dimension, IsDimension, max_dimension}
use Rattle.std.proofs.lemmas.Bool.{cond-true, cond-false}
use Rattle.ntx_nodes.specs.declared.contents.GlyphFields.{GlyphFields}
use Rattle.ntx_nodes.specs.declared.trouble.Trouble.TheVariants.{Dimension}
use Rattle.ntx_ship.specs.declared.piece.Piece.TheVariants.{Glyph, Rule}
use Rattle.ntx_ship.specs.declared.place.Place.{Place}
use Rattle.ntx_ship.specs.Placed.{Pieces, may_stand, glyph_mark, rule_mark}

-- a number of the code is itself
pub exact : (x : ℤ) → unsigned_abs x ≤ 2 ^ 62 → to_z w64 (of_z w64 x) ≡ x
exact x h = omega (arith, ints)

pub small : (x : ℤ) → IsDimension x → unsigned_abs x ≤ 2 ^ 62
small x h = omega (arith, ints)

-- a number of fewer bits too
pub kept : (r x : ℤ) → r ≡ x → IsDimension x → to_z w32 (of_z w32 r) ≡ x
kept r x e h = omega (arith, ints, e)

pub both : (a b : Bool) → (a && b) ≡ true → (a ≡ true) × (b ≡ true)
both true b e = (refl, e)
both false b e = cc

pub dimension_is : (x : ℤ) → is_dimension x ≡ true → IsDimension x
dimension_is x e =
    let b = both (int_le (neg_ℤ (pos max_dimension)) x) (int_le x (pos max_dimension)) e in
    (grind (arith, ints, b.0), grind (arith, ints, b.1))

pub glyph_stands : (here : Place) (g : GlyphFields) (width h v w : ℤ) → may_stand here width ≡ true → h ≡ here.h → v ≡ here.v → w ≡ width → ◌≡◌ {A = Pieces} (Ok (Glyph (record { h = h; v = v; font = g.font; code = g.char; width = w }) ∷ [])) (glyph_mark here g width)
unfolding glyph_mark
glyph_stands here g width h v w stands eh ev ew =
    (λ j. Ok (Glyph (record { h = eh j; v = ev j; font = g.font; code = g.char; width = ew j }) ∷ []))
    ∙ sym (cond-true (may_stand here width) (Ok (Glyph (record { h = here.h; v = here.v; font = g.font; code = g.char; width = width }) ∷ [])) (Err Dimension) stands)

pub glyph_refused : (here : Place) (g : GlyphFields) (width : ℤ) → may_stand here width ≡ false → ◌≡◌ {A = Pieces} (Err Dimension) (glyph_mark here g width)
unfolding glyph_mark
glyph_refused here g width fails = sym (cond-false (may_stand here width) (Ok (Glyph (record { h = here.h; v = here.v; font = g.font; code = g.char; width = width }) ∷ [])) (Err Dimension) fails)

pub is_above : (x : ℤ) → pos 1 ≤ℤ x → int_lt (pos 0) x ≡ true
is_above x h = grind (arith, ints)

above : (height width : ℤ) → int_lt (pos 0) width ≡ true → int_lt (pos 0) height ≡ true → (int_lt (pos 0) width && int_lt (pos 0) height) ≡ true
above height width w h = ap (λ b. b && int_lt (pos 0) height) w ∙ h

abbrev standing_rule : Place → ℤ → ℤ → Pieces
standing_rule here height width = cond (may_stand here width) (Ok (Rule (record { h = here.h; v = here.v; height = height; width = width }) ∷ [])) (Err Dimension)

rule_is : (here : Place) (height width : ℤ) → int_lt (pos 0) width ≡ true → int_lt (pos 0) height ≡ true → standing_rule here height width ≡ rule_mark here height width
unfolding rule_mark
rule_is here height width w h = sym (cond-true (int_lt (pos 0) width && int_lt (pos 0) height) (standing_rule here height width) (Ok []) (above height width w h))

pub rule_stands : (here : Place) (height width h v t w : ℤ) → int_lt (pos 0) width ≡ true → int_lt (pos 0) height ≡ true → may_stand here width ≡ true → h ≡ here.h → v ≡ here.v → t ≡ height → w ≡ width → ◌≡◌ {A = Pieces} (Ok (Rule (record { h = h; v = v; height = t; width = w }) ∷ [])) (rule_mark here height width)
rule_stands here height width h v t w wide high stands eh ev et ew =
    (λ j. Ok (Rule (record { h = eh j; v = ev j; height = et j; width = ew j }) ∷ []))
    ∙ sym (cond-true (may_stand here width) (Ok (Rule (record { h = here.h; v = here.v; height = height; width = width }) ∷ [])) (Err Dimension) stands)
    ∙ rule_is here height width wide high

pub rule_refused : (here : Place) (height width : ℤ) → int_lt (pos 0) width ≡ true → int_lt (pos 0) height ≡ true → may_stand here width ≡ false → ◌≡◌ {A = Pieces} (Err Dimension) (rule_mark here height width)
rule_refused here height width wide high fails =
    sym (cond-false (may_stand here width) (Ok (Rule (record { h = here.h; v = here.v; height = height; width = width }) ∷ [])) (Err Dimension) fails)
    ∙ rule_is here height width wide high
