use Rattle.std.proofs.lemmas.Result.{err_from_is_err_and}
use Rattle.ntx_ligkern.proofs.StepEnds.{freed_stops, freed_ends}
use Rattle.ntx_ligkern.proofs.ligaturing.free_right.Goals as goal

pub returns-in_err-link : goal.returns-in_err-link
returns-in_err-link g c =
    let h = g.N.Nodes.heap in
    let p = err_from_is_err_and c.from_residual.result c.from_residual.ensures.1 in
    rw (p.1, p.2) (freed_stops c.args.holder c.args.right c.args.after (h c.args.nodes.now) (h c.link.new.nodes) c.in_err-link.field-0.0 c.in_err-link.ensures)

pub returns : goal.returns
returns g c =
    let h = g.N.Nodes.heap in
    freed_ends c.args.holder c.args.right c.args.after (h c.args.nodes.now) (h c.link.new.nodes) (h c.free.new.nodes) c.free.result c.in_ok-link.ensures c.free.ensures
