use Rattle.std.proofs.lemmas.Result.{err_from_is_err_and}
use Rattle.ntx_ligkern.proofs.DiscEnds.{moved_stops, moved_ends}
use Rattle.ntx_ligkern.proofs.discs.move_in.Goals as goal

pub returns-in_err-link_from : goal.returns-in_err-link_from
returns-in_err-link_from g c =
    let h = g.N.Nodes.heap in
    let p = err_from_is_err_and c.from_residual.result c.from_residual.ensures.1 in
    rw (p.1, p.2) (moved_stops c.args.before c.args.n c.args.disc c.args.d (h c.args.nodes.now) (h c.link_from.new.nodes) c.in_err-link_from.field-0.0 c.in_err-link_from.ensures)

pub returns : goal.returns
returns g c =
    let h = g.N.Nodes.heap in
    moved_ends c.args.before c.args.n c.args.disc c.args.d (h c.args.nodes.now) (h c.link_from.new.nodes) (h c.put_in.new.nodes) c.put_in.result c.in_ok-link_from.ensures c.put_in.ensures
