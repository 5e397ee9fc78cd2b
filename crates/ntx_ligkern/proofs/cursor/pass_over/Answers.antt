use Rattle.std.proofs.Common.{reverse, ◌∙◌, ap}
use Rattle.ntx_ligkern.specs.inner.Cursors.{spot_of, spot_from}
use Rattle.ntx_ligkern.proofs.Ahead.{pass_none, pass_some}
use Rattle.ntx_ligkern.proofs.cursor.pass_over.Goals as goal

pub returns-in_err-cursor : goal.returns-in_err-cursor
returns-in_err-cursor c =
    let from = c.loop-left.cursor in
    ap (spot_from c.take_next.new.ahead.items) c.from_residual.ensures ∙ pass_none c.loop-left.left from.count from.at from.before (reverse c.loop-left.ahead.items) c.loop-left-test.true c.in_err-cursor.ensures ∙ c.loop-left.invariant

pub loop-left-preserved : goal.loop-left-preserved
loop-left-preserved c =
    let from = c.loop-left.cursor in
    pass_some c.loop-left.left from.count from.at from.before (reverse c.loop-left.ahead.items) (spot_of c.in_ok-cursor.cursor c.take_next.new.ahead.items) c.loop-left-test.true c.in_ok-cursor.ensures ∙ c.loop-left.invariant
