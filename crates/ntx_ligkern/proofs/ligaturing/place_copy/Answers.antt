use Rattle.std.proofs.lemmas.Result.{err_from_is_err_and}
use Rattle.ntx_ligkern.proofs.StepEnds.{placed_stops, placed_stops_later, placed_ends}
use Rattle.ntx_ligkern.proofs.ligaturing.place_copy.Goals as goal

pub returns-in_err-turn_into : goal.returns-in_err-turn_into
returns-in_err-turn_into g c =
    let h = g.N.Nodes.heap in
    let p = err_from_is_err_and c.from_residual.result c.from_residual.ensures.1 in
    rw (p.1, p.2) (placed_stops c.args.new c.args.left c.args.code c.args.right (h c.args.nodes.now) (h c.turn_into.new.nodes) c.in_err-turn_into.field-0.0 c.in_err-turn_into.ensures)

pub returns-in_err-put_in : goal.returns-in_err-put_in
returns-in_err-put_in g c =
    let h = g.N.Nodes.heap in
    let p = err_from_is_err_and c.from_residual-in_err-put_in.result c.from_residual-in_err-put_in.ensures.1 in
    rw (p.1, p.2) (placed_stops_later c.args.new c.args.left c.args.code c.args.right (h c.args.nodes.now) (h c.turn_into.new.nodes) (h c.put_in.new.nodes) c.in_err-put_in.field-0.0 c.in_ok-turn_into.ensures c.in_err-put_in.ensures)

pub returns : goal.returns
returns g c =
    let h = g.N.Nodes.heap in
    placed_ends c.args.new c.args.left c.args.code c.args.right (h c.args.nodes.now) (h c.turn_into.new.nodes) (h c.put_in.new.nodes) c.in_ok-turn_into.ensures c.in_ok-put_in.ensures
