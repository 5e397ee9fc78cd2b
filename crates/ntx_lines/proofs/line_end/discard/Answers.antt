use Rattle.std.proofs.lemmas.Result.{err_from_is_err_and}
use Rattle.ntx_lines.specs.LineEnd.{freed}
use Rattle.ntx_lines.proofs.Begins.{begins_freed}
use Rattle.ntx_lines.proofs.Endings.{next_item, item_stops}
use Rattle.ntx_lines.proofs.line_end.discard.Goals as goal

pub returns-in_err-free : goal.returns-in_err-free
returns-in_err-free g c =
    let h = g.N.Nodes.heap in
    let p = err_from_is_err_and c.from_residual.result c.from_residual.ensures.1 in
    rw (p.1, p.2) (item_stops freed c.args.names.now (h c.args.nodes.now) (h c.loop-n.nodes) (h c.free.new.nodes) c.loop-n.n-index _ _ begins_freed c.loop-n-test.true c.loop-n.invariant.goes c.in_err-free.ensures)

pub loop-n-preserved : goal.loop-n-preserved
loop-n-preserved g c =
    let h = g.N.Nodes.heap in
    record { goes = next_item freed c.args.names.now (h c.args.nodes.now) (h c.loop-n.nodes) (h c.free.new.nodes) c.loop-n.n-index _ c.loop-n-test.true c.loop-n.invariant.goes c.in_ok-free.ensures }
