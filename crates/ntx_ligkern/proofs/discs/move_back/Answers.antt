use Rattle.std.proofs.lemmas.Result.{err_from_is_err_and}
use Rattle.ntx_ligkern.proofs.DiscEnds.{back_stops, back_ends}
use Rattle.ntx_ligkern.proofs.discs.move_back.Goals as goal

pub returns-in_err-link : goal.returns-in_err-link
returns-in_err-link g c =
    let h = g.N.Nodes.heap in
    let p = err_from_is_err_and c.from_residual.result c.from_residual.ensures.1 in
    rw (p.1, p.2) (back_stops c.args.disc c.args.last c.args.n c.args.after (h c.args.nodes.now) (h c.link.new.nodes) c.in_err-link.field-0.0 c.in_err-link.ensures)

pub returns : goal.returns
returns g c =
    let h = g.N.Nodes.heap in
    back_ends c.args.disc c.args.last c.args.n c.args.after (h c.args.nodes.now) (h c.link.new.nodes) (h c.put_in.new.nodes) c.put_in.result c.in_ok-link.ensures c.put_in.ensures
