use Rattle.std.proofs.Common.{ℕ, ℤ, Ok, Err}
use Rattle.std.proofs.lemmas.Result.{err_from_is_err_and}
use Rattle.ntx_nodes.specs.Steps.{wear_current_step}
use Rattle.ntx_nodes.specs.declared.trouble.Phase.TheVariants as phase
use Rattle.ntx_machine.specs.State.{State, with_heap}
use Rattle.ntx_machine.specs.Machine.{failing}
use Rattle.ntx_machine.specs.Seen.{state_of}
use Rattle.ntx_machine.proofs.Steps.{ends_phased}
use Rattle.ntx_machine.proofs.Pages.{packing_step, pack_stops, wear_stops}
use Rattle.ntx_machine.proofs.engine.Engine.pack_page.Goals as goal

pub returns-in_err-page-clause-ends : goal.returns-in_err-page-clause-ends
returns-in_err-page-clause-ends g c =
    let h = g.N.Nodes.heap in
    let s : State = state_of h c.args.self.now in
    let why = c.in_err-page.field-0.0 in
    let p = err_from_is_err_and c.from_residual.result c.from_residual.ensures.1 in
    rw (p.1, p.2) (pack_stops c.args.fonts.now c.args.head s (with_heap s (h c.vpack-packed.new.nodes)) (failing why)
    (ends_phased phase.Page (packing_step c.args.fonts.now c.args.head) c.vpack-packed.result (Err why) s (h c.vpack-packed.new.nodes) c.in_err-page.ensures c.vpack-packed.ensures))

pub returns-in_err-in_phase-clause-ends : goal.returns-in_err-in_phase-clause-ends
returns-in_err-in_phase-clause-ends g c =
    let h = g.N.Nodes.heap in
    let s : State = state_of h c.args.self.now in
    let t : State = with_heap s (h c.vpack-packed.new.nodes) in
    let why = c.in_err-in_phase.field-0.0 in
    let page : ℕ × ℤ = (c.in_ok-page.page, c.in_ok-page._badness) in
    let p = err_from_is_err_and c.from_residual-in_err-in_phase.result c.from_residual-in_err-in_phase.ensures.1 in
    rw (p.1, p.2) (wear_stops c.args.fonts.now c.args.head page s t (with_heap s (h c.wear_current.new.self)) (failing why)
    (ends_phased phase.Page (packing_step c.args.fonts.now c.args.head) c.vpack-packed.result (Ok page) s (h c.vpack-packed.new.nodes) c.in_ok-page.ensures c.vpack-packed.ensures)
    (ends_phased phase.Page (wear_current_step c.in_ok-page.page) c.wear_current.result (Err why) t (h c.wear_current.new.self) c.in_err-in_phase.ensures c.wear_current.ensures.step))
