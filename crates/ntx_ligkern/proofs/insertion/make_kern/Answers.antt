use Rattle.std.proofs.Common.{Err, sym, subst}
use Rattle.std.proofs.lemmas.Result.{err_from_is_err_and}
use Rattle.ntx_num.specs.Trace.{EndsAs}
use Rattle.ntx_nodes.specs.Writing.{AreMakable}
use Rattle.ntx_nodes.specs.declared.fields.Fields.{Fields}
use Rattle.ntx_lists.specs.MadeNodes.{made_and_linked}
use Rattle.ntx_ligkern.proofs.Kernings.{kern_makable, kern_stops}
use Rattle.ntx_ligkern.proofs.insertion.make_kern.Goals as goal

pub make_linked-requires-clause-makable : goal.make_linked-requires-clause-makable
make_linked-requires-clause-makable g c =
    let heap = g.N.Nodes.heap c.args.nodes.now in
    subst (AreMakable heap) (sym c.kern_fields.ensures) (kern_makable heap c.args.k c.requires.wide c.requires.placed)

pub returns-in_err-make_linked-clause-traced : goal.returns-in_err-make_linked-clause-traced
returns-in_err-make_linked-clause-traced g c =
    let h = g.N.Nodes.heap in
    let k = c.args.k in
    let p = err_from_is_err_and c.from_residual.result c.from_residual.ensures.1 in
    rw (p.1, p.2) (kern_stops k (h c.args.nodes.now) (h c.make_linked.new.nodes) c.in_err-make_linked.field-0.0
    (subst (λ (x : Fields). EndsAs (Err c.in_err-make_linked.field-0.0) (h c.make_linked.new.nodes) (made_and_linked x k.left k.place.at k.place.field (h c.args.nodes.now))) c.kern_fields.ensures c.in_err-make_linked.ensures.traced))
