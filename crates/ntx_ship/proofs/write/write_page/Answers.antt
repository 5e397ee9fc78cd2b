-- A page begins, its pieces follow, and it ends.
use Rattle.std.proofs.Common.{ℕ, rules, sym, subst, FitsSigned, w32}
use Rattle.std.proofs.lemmas.Int.{to_z-of_z}
use Rattle.std.proofs.lemmas.Result.{err_from_is_err_and}
use Rattle.ntx_dvi.proofs.Writing.{writes_stop}
use Rattle.ntx_ship.specs.Drawable.{AreDrawable}
use Rattle.ntx_ship.proofs.Drawing.{page_drawn, page_stopped}
use Rattle.ntx_ship.proofs.write.write_page.Goals as goal

pub draw_pieces-requires-clause-drawable : goal.draw_pieces-requires-clause-drawable
draw_pieces-requires-clause-drawable c =
    rw c.pieces.ensures (subst (λ (k : ℕ). AreDrawable k c.args.page.now.pieces) (sym c.in_ok-page_start.ensures.no_push) c.requires.drawable)

pub returns-in_err-page_start-clause-writes : goal.returns-in_err-page_start-clause-writes
returns-in_err-page_start-clause-writes c =
    let p = err_from_is_err_and c.from_residual.result c.from_residual.ensures.1 in
    let number_fits : FitsSigned w32 c.args.number = search rules in
    rw (p.1, p.2) (writes_stop _ (rw c.requires.number at (simp to_z-of_z at c.in_err-page_start.ensures.writes)))

pub returns-in_err-draw_pieces-clause-writes : goal.returns-in_err-draw_pieces-clause-writes
returns-in_err-draw_pieces-clause-writes c =
    let p = err_from_is_err_and c.from_residual-in_err-draw_pieces.result c.from_residual-in_err-draw_pieces.ensures.1 in
    let number_fits : FitsSigned w32 c.args.number = search rules in
    let first = rw c.requires.number at (simp to_z-of_z at c.in_ok-page_start.ensures.writes) in
    rw (p.1, p.2) (page_stopped c.args.fonts.now c.args.page.now first (rw (c.new-pen.ensures, c.pieces.ensures) at c.in_err-draw_pieces.ensures.writes))

pub returns-clause-writes : goal.returns-clause-writes
returns-clause-writes c =
    let number_fits : FitsSigned w32 c.args.number = search rules in
    let total_fits : FitsSigned w32 c.total.result = search rules in
    let width_fits : FitsSigned w32 c.width.result = search rules in
    let first = rw c.requires.number at (simp to_z-of_z at c.in_ok-page_start.ensures.writes) in
    let last = rw (c.total.ensures, c.width.ensures) at (simp to_z-of_z at c.page_end.ensures.writes) in
    page_drawn c.args.fonts.now c.args.page.now first (rw (c.new-pen.ensures, c.pieces.ensures) at c.in_ok-draw_pieces.ensures.writes) last
