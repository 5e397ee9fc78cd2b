use Rattle.std.proofs.lemmas.Result.{err_from_is_err_and}
use Rattle.ntx_ligkern.proofs.DiscEnds.{copied_stops, copied_ends}
use Rattle.ntx_ligkern.proofs.discs.copy_into.Goals as goal

pub returns-in_err-copy : goal.returns-in_err-copy
returns-in_err-copy g c =
    let h = g.N.Nodes.heap in
    let p = err_from_is_err_and c.from_residual.result c.from_residual.ensures.1 in
    rw (p.1, p.2) (copied_stops c.args.n c.args.at c.args.f c.args.next (h c.args.nodes.now) (h c.copy.new.nodes) c.in_err-copy.field-0.0 c.in_err-copy.ensures)

pub returns : goal.returns
returns g c =
    let h = g.N.Nodes.heap in
    copied_ends c.args.n c.args.at c.args.f c.args.next c.in_ok-copy.copy (h c.args.nodes.now) (h c.copy.new.nodes) (h c.put_in.new.nodes) c.put_in.result c.in_ok-copy.ensures c.put_in.ensures
