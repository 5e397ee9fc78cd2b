-- A rule without width or height is no mark.
use Rattle.std.proofs.Common.{◌≡◌, ℤ, pos, true, to_z, of_z, w64, subst, arith}
use Rattle.std.specs.Prelude.{int_le}
use Rattle.std.proofs.lemmas.Int.{ints}
use Rattle.ntx_ship.proofs.Adds.{no_width, no_height, at_most_none}
use Rattle.ntx_ship.proofs.Marks.{exact, small}
use Rattle.ntx_ship.proofs.placing.add_rule.Goals as goal

pub returns-then-width-le0 : goal.returns-then-width-le0
returns-then-width-le0 c =
    let none = subst (λ (x : ℤ). int_le x (pos 0) ≡ true) (exact c.args.width (small c.args.width c.requires.width)) c.if-width-le0.true in
    no_width tt c.args.pieces.now.items c.args.here c.args.height c.args.width (at_most_none c.args.width none)

pub returns-then-height-le0 : goal.returns-then-height-le0
returns-then-height-le0 c =
    let same : to_z w64 (of_z w64 c.args.height) ≡ c.args.height = omega (arith, ints, c.requires.height) in
    let none = subst (λ (x : ℤ). int_le x (pos 0) ≡ true) same c.if-height-le0.true in
    no_height tt c.args.pieces.now.items c.args.here c.args.height c.args.width (at_most_none c.args.height none)
