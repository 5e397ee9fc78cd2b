use Rattle.std.proofs.lemmas.Result.{err_from_is_err_and}
use Rattle.ntx_ligkern.proofs.StepEnds.{joined_stops, joined_stops_later, joined_ends}
use Rattle.ntx_ligkern.proofs.ligaturing.join.Goals as goal

pub returns-in_err-holder : goal.returns-in_err-holder
returns-in_err-holder g c =
    let h = g.N.Nodes.heap in
    let p = err_from_is_err_and c.from_residual.result c.from_residual.ensures.1 in
    rw (p.1, p.2) (joined_stops c.args.left c.args.lig c.args.right c.args.after (h c.args.nodes.now) (h c.put_lig.new.nodes) c.in_err-holder.field-0.0 c.in_err-holder.ensures)

pub returns-in_err-let_go : goal.returns-in_err-let_go
returns-in_err-let_go g c =
    let h = g.N.Nodes.heap in
    let p = err_from_is_err_and c.from_residual-in_err-let_go.result c.from_residual-in_err-let_go.ensures.1 in
    rw (p.1, p.2) (joined_stops_later c.args.left c.args.lig c.args.right c.args.after c.in_ok-holder.holder (h c.args.nodes.now) (h c.put_lig.new.nodes) (h c.let_go.new.nodes) c.in_err-let_go.field-0.0 c.in_ok-holder.ensures c.in_err-let_go.ensures)

pub returns : goal.returns
returns g c =
    let h = g.N.Nodes.heap in
    joined_ends c.args.left c.args.lig c.args.right c.args.after c.in_ok-holder.holder (h c.args.nodes.now) (h c.put_lig.new.nodes) (h c.let_go.new.nodes) c.in_ok-holder.ensures c.in_ok-let_go.ensures
