-- No bits of a mark are lost.
use Rattle.std.proofs.Common.{◌≡◌, ℤ, true, false, sym, ◌∙◌, subst}
use Rattle.ntx_ship.specs.Placed.{may_stand}
use Rattle.ntx_ship.proofs.Marks.{glyph_stands, glyph_refused, exact, small, kept}
use Rattle.ntx_ship.proofs.mark.glyph_mark.Goals as goal

pub returns : goal.returns
returns c =
    let width = exact c.args.width (small c.args.width c.requires.width) in
    let here = subst (λ (x : ℤ). may_stand c.args.here x ≡ true) width (sym c.may_stand.ensures.value ∙ c.if-not-may_stand.false) in
    let h = c.may_stand.ensures.h c.if-not-may_stand.false in
    let v = c.may_stand.ensures.v c.if-not-may_stand.false in
    glyph_stands c.args.here c.args.g c.args.width _ _ _ here
    (kept _ c.args.here.h (c.narrowed.ensures ∙ exact c.args.here.h (small c.args.here.h h)) h)
    (kept _ c.args.here.v (c.narrowed-2.ensures ∙ exact c.args.here.v (small c.args.here.v v)) v)
    (kept _ c.args.width (c.narrowed-3.ensures ∙ width) c.requires.width)

pub returns-then-not-may_stand : goal.returns-then-not-may_stand
returns-then-not-may_stand c =
    let width = exact c.args.width (small c.args.width c.requires.width) in
    glyph_refused c.args.here c.args.g c.args.width
    (subst (λ (x : ℤ). may_stand c.args.here x ≡ false) width (sym c.may_stand.ensures.value ∙ c.if-not-may_stand.true))
