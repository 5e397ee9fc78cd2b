use Rattle.std.proofs.lemmas.Result.{err_from_is_err_and}
use Rattle.ntx_lines.specs.Making.{set}
use Rattle.ntx_lines.proofs.Begins.{begins_set}
use Rattle.ntx_lines.proofs.Endings.{next_item, item_stops}
use Rattle.ntx_lines.proofs.making.set_all.Goals as goal

pub returns-in_err-set : goal.returns-in_err-set
returns-in_err-set g c =
    let h = g.N.Nodes.heap in
    let p = err_from_is_err_and c.from_residual.result c.from_residual.ensures.1 in
    rw (p.1, p.2) (item_stops (set c.args.n) c.args.values.now (h c.args.nodes.now) (h c.loop-value.nodes) (h c.set.new.nodes) c.loop-value.value-index _ _ (begins_set c.args.n) c.loop-value-test.true c.loop-value.invariant.goes c.in_err-set.ensures)

pub loop-value-preserved : goal.loop-value-preserved
loop-value-preserved g c =
    let h = g.N.Nodes.heap in
    record { goes = next_item (set c.args.n) c.args.values.now (h c.args.nodes.now) (h c.loop-value.nodes) (h c.set.new.nodes) c.loop-value.value-index _ c.loop-value-test.true c.loop-value.invariant.goes c.in_ok-set.ensures }
