use Rattle.std.proofs.lemmas.Result.{err_from_is_err_and}
use Rattle.ntx_ligkern.proofs.StepEnds.{put_stops, put_ends}
use Rattle.ntx_ligkern.proofs.linking.put_in.Goals as goal

pub returns-in_err-link : goal.returns-in_err-link
returns-in_err-link g c =
    let h = g.N.Nodes.heap in
    let p = err_from_is_err_and c.from_residual.result c.from_residual.ensures.1 in
    rw (p.1, p.2) (put_stops c.args.new c.args.n c.args.f c.args.next (h c.args.nodes.now) (h c.link.new.nodes) c.in_err-link.field-0.0 c.in_err-link.ensures)

pub returns : goal.returns
returns g c =
    let h = g.N.Nodes.heap in
    put_ends c.args.new c.args.n c.args.f c.args.next (h c.args.nodes.now) (h c.link.new.nodes) (h c.link-2.new.nodes) c.link-2.result c.in_ok-link.ensures c.link-2.ensures
