-- No bits of a mark are lost.
use Rattle.std.proofs.Common.{◌≡◌, ℤ, true, false, to_z, of_z, w32, w64, sym, ◌∙◌, subst, arith}
use Rattle.std.proofs.lemmas.Int.{ints}
use Rattle.ntx_ship.specs.Placed.{may_stand}
use Rattle.ntx_ship.proofs.Marks.{rule_stands, rule_refused, is_above, exact, small, kept}
use Rattle.ntx_ship.proofs.mark.rule_mark.Goals as goal

pub returns : goal.returns
returns c =
    let width = exact c.args.width (small c.args.width c.requires.width) in
    let height : to_z w64 (of_z w64 c.args.height) ≡ c.args.height = omega (arith, ints, c.requires.height_above, c.requires.height) in
    let here = subst (λ (x : ℤ). may_stand c.args.here x ≡ true) width (sym c.may_stand.ensures.value ∙ c.if-not-may_stand.false) in
    let h = c.may_stand.ensures.h c.if-not-may_stand.false in
    let v = c.may_stand.ensures.v c.if-not-may_stand.false in
    let tall : to_z w32 (of_z w32 c.narrowed-3.result) ≡ c.args.height = omega (arith, ints, c.narrowed-3.ensures, height, c.requires.height_above, c.requires.height) in
    rule_stands c.args.here c.args.height c.args.width _ _ _ _ (is_above c.args.width c.requires.width_above) (is_above c.args.height c.requires.height_above) here
    (kept _ c.args.here.h (c.narrowed.ensures ∙ exact c.args.here.h (small c.args.here.h h)) h)
    (kept _ c.args.here.v (c.narrowed-2.ensures ∙ exact c.args.here.v (small c.args.here.v v)) v)
    tall
    (kept _ c.args.width (c.narrowed-4.ensures ∙ width) c.requires.width)

pub returns-then-not-may_stand : goal.returns-then-not-may_stand
returns-then-not-may_stand c =
    let width = exact c.args.width (small c.args.width c.requires.width) in
    rule_refused c.args.here c.args.height c.args.width (is_above c.args.width c.requires.width_above) (is_above c.args.height c.requires.height_above)
    (subst (λ (x : ℤ). may_stand c.args.here x ≡ false) width (sym c.may_stand.ensures.value ∙ c.if-not-may_stand.true))
