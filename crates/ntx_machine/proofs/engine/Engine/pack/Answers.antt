use Rattle.std.proofs.Common.{ℕ, ℤ, Ok, Err, pos}
use Rattle.std.proofs.lemmas.Result.{err_from_is_err_and}
use Rattle.ntx_nodes.specs.Steps.{set_step, wear_current_step}
use Rattle.ntx_nodes.specs.declared.trouble.Phase.TheVariants as phase
use Rattle.ntx_nodes.specs.declared.field.Field.TheVariants.{Subtype}
use Rattle.ntx_nodes.specs.declared.field.FieldValue.TheVariants.{Number}
use Rattle.ntx_pack.specs.Pack.{hpack_step}
use Rattle.ntx_machine.specs.State.{State, with_heap}
use Rattle.ntx_machine.specs.Nodes.{document_box}
use Rattle.ntx_machine.specs.Seen.{state_of}
use Rattle.ntx_machine.proofs.Steps.{ends_phased, ends_phased_at_once}
use Rattle.ntx_machine.proofs.Building.{not_packed, box_not_worn}
use Rattle.ntx_machine.proofs.engine.Engine.pack.Goals as goal

pub returns-in_err-n-clause-ends : goal.returns-in_err-n-clause-ends
returns-in_err-n-clause-ends g c =
    let h = g.N.Nodes.heap in
    let s : State = state_of h c.args.self.now in
    let fonts = c.args.fonts.now in
    let p = err_from_is_err_and c.from_residual.result c.from_residual.ensures.1 in
    rw (p.1, p.2) (not_packed fonts c.args.to c.args.head s (with_heap s (h c.hpack.new.nodes)) c.in_err-n.field-0.0
    (ends_phased phase.Hpack (hpack_step fonts c.args.head c.args.to) c.hpack.result (Err c.in_err-n.field-0.0) s (h c.hpack.new.nodes) c.in_err-n.ensures c.hpack.ensures))

pub returns-in_err-in_phase-clause-ends : goal.returns-in_err-in_phase-clause-ends
returns-in_err-in_phase-clause-ends g c =
    let h = g.N.Nodes.heap in
    let s : State = state_of h c.args.self.now in
    let t : State = with_heap s (h c.hpack.new.nodes) in
    let u : State = with_heap s (h c.set.new.self) in
    let fonts = c.args.fonts.now in
    let box : ℕ × ℤ = (c.in_ok-n.n, c.in_ok-n._badness) in
    let p = err_from_is_err_and c.from_residual-in_err-in_phase.result c.from_residual-in_err-in_phase.ensures.1 in
    rw (p.1, p.2) (box_not_worn fonts c.args.to c.args.head box s t u (with_heap s (h c.wear_current.new.self)) c.in_err-in_phase.field-0.0
    (ends_phased phase.Hpack (hpack_step fonts c.args.head c.args.to) c.hpack.result (Ok box) s (h c.hpack.new.nodes) c.in_ok-n.ensures c.hpack.ensures)
    (ends_phased_at_once phase.Hpack (set_step c.in_ok-n.n Subtype (Number (pos document_box))) c.set.result (Ok tt) t (h c.set.new.self) c.in_ok-in_phase_at_once.ensures c.set.ensures.step)
    (ends_phased phase.Hpack (wear_current_step c.in_ok-n.n) c.wear_current.result (Err c.in_err-in_phase.field-0.0) u (h c.wear_current.new.self) c.in_err-in_phase.ensures c.wear_current.ensures.step))
