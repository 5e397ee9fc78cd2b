use Rattle.std.proofs.lemmas.Result.{err_from_is_err_and}
use Rattle.ntx_ligkern.proofs.StepEnds.{inserted_stops, inserted_ends}
use Rattle.ntx_ligkern.proofs.ligaturing.insert_lig.Goals as goal

pub returns-in_err-new : goal.returns-in_err-new
returns-in_err-new g c =
    let h = g.N.Nodes.heap in
    let p = err_from_is_err_and c.from_residual.result c.from_residual.ensures.1 in
    rw (p.1, p.2) (inserted_stops c.args.left c.args.code c.args.right (h c.args.nodes.now) (h c.copy.new.nodes) c.in_err-new.field-0.0 c.in_err-new.ensures)

pub returns : goal.returns
returns g c =
    let h = g.N.Nodes.heap in
    inserted_ends c.args.left c.args.code c.args.right c.in_ok-new.new (h c.args.nodes.now) (h c.copy.new.nodes) (h c.place_copy.new.nodes) c.place_copy.result c.in_ok-new.ensures c.place_copy.ensures
