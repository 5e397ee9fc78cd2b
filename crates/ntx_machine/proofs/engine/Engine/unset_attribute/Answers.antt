use Rattle.std.proofs.Common.{Err}
use Rattle.std.proofs.lemmas.Result.{err_from_is_err_and}
use Rattle.ntx_num.specs.declared.answer.Fail.TheVariants.{NoMemory}
use Rattle.ntx_nodes.specs.Steps.{unset_current_step}
use Rattle.ntx_nodes.specs.declared.trouble.Phase.TheVariants as phase
use Rattle.ntx_machine.specs.Seen.{state_of}
use Rattle.ntx_machine.proofs.Steps.{ends_in_phase}
use Rattle.ntx_machine.proofs.engine.Engine.unset_attribute.Goals as goal

pub returns-in_err-unset_current-clause-ends : goal.returns-in_err-unset_current-clause-ends
returns-in_err-unset_current-clause-ends g c =
    let h = g.N.Nodes.heap in
    let p = err_from_is_err_and c.from_residual.result c.from_residual.ensures.1 in
    rw (p.1, p.2) (ends_in_phase phase.Build (unset_current_step c.args.id) (Err NoMemory) (state_of h c.args.self.now) (h c.unset_current.new.self) c.in_err-unset_current.ensures.undone)
