use Rattle.std.proofs.Common.{Err, subst}
use Rattle.std.proofs.lemmas.Result.{err_from_is_err_and}
use Rattle.std.specs.Prelude.{ℕ}
use Rattle.ntx_num.specs.Trace.{EndsAs}
use Rattle.ntx_nodes.specs.declared.fields.Fields.{Fields}
use Rattle.ntx_nodes.specs.declared.trouble.Phase.TheVariants as phase
use Rattle.ntx_machine.specs.State.{State}
use Rattle.ntx_machine.specs.Build.{made}
use Rattle.ntx_machine.specs.Machine.{failing, fails}
use Rattle.ntx_machine.specs.Seen.{state_of}
use Rattle.ntx_machine.proofs.Pages.{make_stops}
use Rattle.ntx_machine.proofs.engine.Engine.make_top.Goals as goal

pub returns-in_err-top-clause-ends : goal.returns-in_err-top-clause-ends
returns-in_err-top-clause-ends g c =
    let h = g.N.Nodes.heap in
    let s : State = state_of h c.args.self.now in
    let new : State = state_of h c.make.new.self in
    let why = c.in_err-top.field-0.0 in
    let p = err_from_is_err_and c.from_residual.result c.from_residual.ensures.1 in
    rw (p.1, p.2) (make_stops c.args.first c.args.glue s new (failing why)
    (subst (λ (x : Fields). EndsAs (fails {A = ℕ} (Err why)) new (made phase.Page x s)) c.glue_node.ensures.fields c.in_err-top.ensures.ends))
