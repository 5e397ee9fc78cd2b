use Rattle.std.proofs.lemmas.Result.{err_from_is_err_and}
use Rattle.ntx_nodes.specs.declared.trouble.Phase.TheVariants as phase
use Rattle.ntx_num.proofs.Traces.{ends_later}
use Rattle.ntx_machine.specs.Build.{made, linked}
use Rattle.ntx_machine.specs.Machine.{fails}
use Rattle.ntx_machine.specs.Seen.{state_of}
use Rattle.ntx_machine.proofs.Building.{not_grown}
use Rattle.ntx_machine.proofs.engine.Engine.grow_by.Goals as goal

pub returns-in_err-n-clause-ends : goal.returns-in_err-n-clause-ends
returns-in_err-n-clause-ends g c =
    let h = g.N.Nodes.heap in
    let p = err_from_is_err_and c.from_residual.result c.from_residual.ensures.1 in
    rw (p.1, p.2) (not_grown c.args.fields c.args.list (state_of h c.args.self.now) (state_of h c.make.new.self) c.in_err-n.field-0.0 c.in_err-n.ensures.ends)

pub returns-clause-ends : goal.returns-clause-ends
returns-clause-ends g c =
    let h = g.N.Nodes.heap in
    ends_later (made phase.Build c.args.fields (state_of h c.args.self.now)) c.in_ok-n.n (state_of h c.make.new.self) (state_of h c.link.new.self) (λ n t. linked c.args.list n t) (fails c.link.result) c.in_ok-n.ensures.ends c.link.ensures.ends
