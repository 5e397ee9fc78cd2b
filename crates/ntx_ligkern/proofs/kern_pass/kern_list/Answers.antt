use Rattle.std.proofs.Common.{sym, ◌∙◌, subst}
use Rattle.std.specs.Prelude.{All}
use Rattle.std.proofs.lemmas.Result.{err_from_is_err_and}
use Rattle.ntx_ligkern.specs.inner.Sound.{IsPlaced}
use Rattle.ntx_ligkern.proofs.Sounding.{kerns_placed}
use Rattle.ntx_ligkern.proofs.Kernings.{memory_stops}
use Rattle.ntx_ligkern.proofs.kern_pass.kern_list.Goals as goal

pub returns-in_err-names-clause-traced : goal.returns-in_err-names-clause-traced
returns-in_err-names-clause-traced g c =
    let h = g.N.Nodes.heap in
    let p = err_from_is_err_and c.from_residual.result c.from_residual.ensures.1 in
    rw (p.1, p.2) (memory_stops c.args.fonts.now c.args.head (h c.args.nodes.now) (h c.visit_list.new.nodes) c.visit_list.ensures.same)

pub returns-in_err-kerns-clause-traced : goal.returns-in_err-kerns-clause-traced
returns-in_err-kerns-clause-traced g c =
    let h = g.N.Nodes.heap in
    let p = err_from_is_err_and c.from_residual-in_err-kerns.result c.from_residual-in_err-kerns.ensures.1 in
    rw (p.1, p.2) (memory_stops c.args.fonts.now c.args.head (h c.args.nodes.now) (h c.visit_list.new.nodes) c.visit_list.ensures.same)

pub make_kerns-requires-clause-placed : goal.make_kerns-requires-clause-placed
make_kerns-requires-clause-placed g c =
    let heap = g.N.Nodes.heap c.visit_list.new.nodes in
    subst (All (IsPlaced heap)) (sym (c.deref-2.ensures.value ∙ c.in_ok-kerns.ensures.kerns)) (kerns_placed c.args.fonts.now heap c.deref.result.now)
