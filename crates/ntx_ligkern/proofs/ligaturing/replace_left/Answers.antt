use Rattle.std.proofs.lemmas.Result.{err_from_is_err_and}
use Rattle.ntx_ligkern.specs.Ligatures.{turned}
use Rattle.ntx_ligkern.proofs.StepEnds.{gives_stops, gives_ends}
use Rattle.ntx_ligkern.proofs.ligaturing.replace_left.Goals as goal

pub returns-in_err-turn_into : goal.returns-in_err-turn_into
returns-in_err-turn_into g c =
    let h = g.N.Nodes.heap in
    let p = err_from_is_err_and c.from_residual.result c.from_residual.ensures.1 in
    rw (p.1, p.2) (gives_stops (turned c.args.left c.args.code (h c.args.nodes.now)) c.args.left (h c.turn_into.new.nodes) c.in_err-turn_into.field-0.0 c.in_err-turn_into.ensures)

pub returns : goal.returns
returns g c =
    let h = g.N.Nodes.heap in
    gives_ends (turned c.args.left c.args.code (h c.args.nodes.now)) tt c.args.left (h c.turn_into.new.nodes) c.in_ok-turn_into.ensures
