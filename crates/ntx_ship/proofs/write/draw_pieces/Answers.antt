-- One piece after another.
use Rattle.std.proofs.Common.{ℕ, ◌+◌, drop, sym, subst}
use Rattle.std.proofs.lemmas.Result.{err_from_is_err_and}
use Rattle.ntx_ship.specs.Drawable.{AreDrawable}
use Rattle.ntx_ship.proofs.Drawing.{goes_on_first, goes_on, goes_no_farther, stops_behind, goes_to_the_end, next_drawable, none_drawable}
use Rattle.ntx_ship.proofs.write.draw_pieces.Goals as goal

pub loop-piece-init : goal.loop-piece-init
loop-piece-init c = record {
  in_page = c.requires.in_page;
  drawable = c.requires.drawable;
  known = c.requires.known;
  goes_on = goes_on_first c.args.fonts.now c.args.dvi.now c.args.pen.now c.args.pieces.now;
}

pub draw_piece-requires-clause-place : goal.draw_piece-requires-clause-place
draw_piece-requires-clause-place c = (next_drawable _ _ _ _ c.loop-piece-test.true c.loop-piece.invariant.drawable).0

pub draw_piece-requires-clause-nested : goal.draw_piece-requires-clause-nested
draw_piece-requires-clause-nested c = (next_drawable _ _ _ _ c.loop-piece-test.true c.loop-piece.invariant.drawable).1

pub pass-requires : goal.pass-requires
pass-requires c = (next_drawable _ _ _ _ c.loop-piece-test.true c.loop-piece.invariant.drawable).0

pub returns-in_err-draw_piece-clause-writes : goal.returns-in_err-draw_piece-clause-writes
returns-in_err-draw_piece-clause-writes c =
    let p = err_from_is_err_and c.from_residual.result c.from_residual.ensures.1 in
    rw (p.1, p.2) (goes_no_farther _ _ _ _ _ _ _ _ _ c.loop-piece-test.true c.loop-piece.invariant.goes_on (rw c.here.ensures.here at c.in_err-draw_piece.ensures.writes))

pub returns-in_err-pass-clause-writes : goal.returns-in_err-pass-clause-writes
returns-in_err-pass-clause-writes c =
    let p = err_from_is_err_and c.from_residual-in_err-pass.result c.from_residual-in_err-pass.ensures.1 in
    rw (p.1, p.2) (stops_behind _ _ _ _ _ _ _ _ _ c.loop-piece-test.true c.loop-piece.invariant.goes_on (rw c.here.ensures.here at c.in_ok-draw_piece.ensures.writes))

pub returns-clause-writes : goal.returns-clause-writes
returns-clause-writes c = goes_to_the_end _ _ _ _ _ _ _ _ c.loop-piece-test.false c.loop-piece.invariant.goes_on

pub returns-clause-no_push : goal.returns-clause-no_push
returns-clause-no_push c = none_drawable _ _ _ c.loop-piece-test.false c.loop-piece.invariant.drawable

pub loop-piece-preserved : goal.loop-piece-preserved
loop-piece-preserved c =
    let next = next_drawable _ _ _ _ c.loop-piece-test.true c.loop-piece.invariant.drawable in
    record {
      in_page = c.in_ok-draw_piece.ensures.in_page;
      drawable = subst (λ (k : ℕ). AreDrawable k (drop (c.loop-piece.piece-index + 1) c.args.pieces.now)) (sym c.in_ok-draw_piece.ensures.pushes) next.2;
      known = c.in_ok-draw_piece.ensures.known;
      goes_on = goes_on _ _ _ _ _ _ _ _ _ _ c.loop-piece-test.true c.loop-piece.invariant.goes_on (rw c.here.ensures.here at c.in_ok-draw_piece.ensures.writes) c.in_ok-pass.ensures;
    }
