use Rattle.std.proofs.lemmas.Result.{err_from_is_err_and}
use Rattle.ntx_ligkern.proofs.DiscEnds.{before_stops, before_ends}
use Rattle.ntx_ligkern.proofs.discs.draw_before.Goals as goal

pub returns-in_err-copy_into : goal.returns-in_err-copy_into
returns-in_err-copy_into g c =
    let h = g.N.Nodes.heap in
    let p = err_from_is_err_and c.from_residual.result c.from_residual.ensures.1 in
    rw (p.1, p.2) (before_stops c.args.before c.args.n c.args.disc c.args.d (h c.args.nodes.now) (h c.copy_into.new.nodes) c.in_err-copy_into.field-0.0 c.in_err-copy_into.ensures)

pub returns : goal.returns
returns g c =
    let h = g.N.Nodes.heap in
    before_ends c.args.before c.args.n c.args.disc c.args.d (h c.args.nodes.now) (h c.copy_into.new.nodes) (h c.move_in.new.nodes) c.move_in.result c.in_ok-copy_into.ensures c.move_in.ensures
