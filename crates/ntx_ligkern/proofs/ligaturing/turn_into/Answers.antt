use Rattle.std.proofs.lemmas.Result.{err_from_is_err_and}
use Rattle.ntx_ligkern.proofs.StepEnds.{turn_stops, turn_ends}
use Rattle.ntx_ligkern.proofs.ligaturing.turn_into.Goals as goal

pub returns-in_err-set_number : goal.returns-in_err-set_number
returns-in_err-set_number g c =
    let h = g.N.Nodes.heap in
    let p = err_from_is_err_and c.from_residual.result c.from_residual.ensures.1 in
    rw (p.1, p.2) (turn_stops c.args.n c.args.code (h c.args.nodes.now) (h c.set_number.new.nodes) c.in_err-set_number.field-0.0 c.in_err-set_number.ensures)

pub returns : goal.returns
returns g c =
    let h = g.N.Nodes.heap in
    turn_ends c.args.n c.args.code (h c.args.nodes.now) (h c.set_number.new.nodes) (h c.set_number-2.new.nodes) c.set_number-2.result c.in_ok-set_number.ensures c.set_number-2.ensures
