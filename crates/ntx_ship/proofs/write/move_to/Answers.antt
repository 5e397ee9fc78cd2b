-- The place moves to the right and then down.
use Rattle.std.proofs.Common.{◌≡◌, rules, refl, ◌∙◌, FitsSigned, w32}
use Rattle.std.specs.Prelude.{◌-ℤ◌}
use Rattle.std.proofs.lemmas.Int.{to_z-of_z}
use Rattle.std.proofs.lemmas.Result.{err_from_is_err_and}
use Rattle.ntx_dvi.proofs.Writing.{writes_append, writes_stop}
use Rattle.ntx_ship.proofs.Marks.{exact, small, kept}
use Rattle.ntx_ship.proofs.write.move_to.Goals as goal

pub returns-in_err-right-clause-writes : goal.returns-in_err-right-clause-writes
returns-in_err-right-clause-writes c =
    let p = err_from_is_err_and c.from_residual.result c.from_residual.ensures.1 in
    let to = kept c.args.h c.args.h refl c.requires.h in
    let from = exact c.args.here.h (small c.args.here.h c.requires.here.h) in
    let right_is : c.distance-right.result ≡ c.args.h -ℤ c.args.here.h = c.distance-right.ensures ∙ (λ j. to j -ℤ from j) in
    let right_fits : FitsSigned w32 c.distance-right.result = search rules in
    rw (p.1, p.2) (writes_stop _ (rw right_is at (simp to_z-of_z at c.in_err-right.ensures.writes)))

pub returns-clause-writes : goal.returns-clause-writes
returns-clause-writes c =
    let h_to = kept c.args.h c.args.h refl c.requires.h in
    let h_from = exact c.args.here.h (small c.args.here.h c.requires.here.h) in
    let v_to = kept c.args.v c.args.v refl c.requires.v in
    let v_from = exact c.args.here.v (small c.args.here.v c.requires.here.v) in
    let right_is : c.distance-right.result ≡ c.args.h -ℤ c.args.here.h = c.distance-right.ensures ∙ (λ j. h_to j -ℤ h_from j) in
    let down_is : c.distance-down.result ≡ c.args.v -ℤ c.args.here.v = c.distance-down.ensures ∙ (λ j. v_to j -ℤ v_from j) in
    let right_fits : FitsSigned w32 c.distance-right.result = search rules in
    let down_fits : FitsSigned w32 c.distance-down.result = search rules in
    writes_append (rw right_is at (simp to_z-of_z at c.in_ok-right.ensures.writes)) (rw down_is at (simp to_z-of_z at c.down.ensures.writes))
