use Rattle.std.proofs.Common.{Ok, Err}
use Rattle.std.proofs.lemmas.Result.{err_from_is_err_and}
use Rattle.ntx_nodes.specs.Steps.{wear_current_step}
use Rattle.ntx_nodes.specs.Writing.{make_filled_step}
use Rattle.ntx_machine.specs.State.{State, with_heap}
use Rattle.ntx_machine.specs.Seen.{state_of}
use Rattle.ntx_machine.proofs.Steps.{ends_phased}
use Rattle.ntx_machine.proofs.Building.{not_made, not_worn}
use Rattle.ntx_machine.proofs.engine.Engine.make.Goals as goal

pub returns-in_err-n-clause-ends : goal.returns-in_err-n-clause-ends
returns-in_err-n-clause-ends g c =
    let h = g.N.Nodes.heap in
    let s : State = state_of h c.args.self.now in
    let p = err_from_is_err_and c.from_residual.result c.from_residual.ensures.1 in
    rw (p.1, p.2) (not_made c.args.phase c.args.fields s (with_heap s (h c.make_filled.new.nodes)) c.in_err-n.field-0.0
    (ends_phased c.args.phase (make_filled_step c.args.fields) c.make_filled.result (Err c.in_err-n.field-0.0) s (h c.make_filled.new.nodes) c.in_err-n.ensures c.make_filled.ensures.step))

pub returns-in_err-in_phase-clause-ends : goal.returns-in_err-in_phase-clause-ends
returns-in_err-in_phase-clause-ends g c =
    let h = g.N.Nodes.heap in
    let s : State = state_of h c.args.self.now in
    let t : State = with_heap s (h c.make_filled.new.nodes) in
    let p = err_from_is_err_and c.from_residual-in_err-in_phase.result c.from_residual-in_err-in_phase.ensures.1 in
    rw (p.1, p.2) (not_worn c.args.phase c.args.fields c.in_ok-n.n s t (with_heap s (h c.wear_current.new.self)) c.in_err-in_phase.field-0.0
    (ends_phased c.args.phase (make_filled_step c.args.fields) c.make_filled.result (Ok c.in_ok-n.n) s (h c.make_filled.new.nodes) c.in_ok-n.ensures c.make_filled.ensures.step)
    (ends_phased c.args.phase (wear_current_step c.in_ok-n.n) c.wear_current.result (Err c.in_err-in_phase.field-0.0) t (h c.wear_current.new.self) c.in_err-in_phase.ensures c.wear_current.ensures.step))
