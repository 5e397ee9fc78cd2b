-- A character is set where the place has moved to.
use Rattle.std.proofs.Common.{rules, FitsSigned, w32}
use Rattle.std.specs.Prelude.{slice_get}
use Rattle.std.proofs.lemmas.Int.{to_z-of_z}
use Rattle.std.proofs.lemmas.Result.{err_from_is_err_and}
use Rattle.ntx_dvi.proofs.Writing.{writes_stop}
use Rattle.ntx_ship.proofs.Drawing.{glyph_written}
use Rattle.ntx_ship.proofs.write.draw_glyph.Goals as goal

pub returns-in_err-move_to-clause-writes : goal.returns-in_err-move_to-clause-writes
returns-in_err-move_to-clause-writes c =
    let p = err_from_is_err_and c.from_residual.result c.from_residual.ensures.1 in
    let h_fits : FitsSigned w32 c.args.m.h = search rules in
    let v_fits : FitsSigned w32 c.args.m.v = search rules in
    rw (p.1, p.2) (writes_stop _ (simp to_z-of_z at c.in_err-move_to.ensures.writes))

pub returns-clause-writes : goal.returns-clause-writes
returns-clause-writes c =
    let h_fits : FitsSigned w32 c.args.m.h = search rules in
    let v_fits : FitsSigned w32 c.args.m.v = search rules in
    glyph_written c.args.here c.args.m (slice_get c.args.fonts.now c.args.m.font) (simp to_z-of_z at c.in_ok-move_to.ensures.writes) c.set_glyph.ensures.writes
