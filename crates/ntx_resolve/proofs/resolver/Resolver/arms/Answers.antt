use Rattle.std.proofs.Common.{◌≡◌, ◌+◌, ◌∙◌, refl, sym, ap, subst, [], ◌∷◌, length, map, None, Some, arith}
use Rattle.ntx_syntax.specs.declared.tree.StatKind.TheVariants as stat
use Rattle.ntx_syntax.specs.declared.tree.Block as tree-block
use Rattle.ntx_syntax.specs.declared.tree.FunctionBody as tree-body
use Rattle.ntx_syntax.specs.declared.tree.IfArm as tree-arm
use Rattle.ntx_resolve.specs.declared.code.StatKind.TheVariants as code-stat
use Rattle.ntx_resolve.specs.HasCode as code
use Rattle.ntx_resolve.specs.Limit as limit
use Rattle.ntx_resolve.specs.Scopes as scopes
use Rattle.ntx_resolve.specs.inner.Closed.{IsClosed, IsArm}
use Rattle.ntx_resolve.proofs.KindExcess as kinds
use Rattle.ntx_resolve.proofs.Allowing.{allowed, not_allowed}
use Rattle.ntx_resolve.proofs.Resolving.{said, ok, ok_in, stayed, err_by, last, last_here, last_err, last_err_by, no_memory_by, done}
use Rattle.ntx_resolve.proofs.Extending.{err_here, first_err_here, longer_after, longer_from, closed, enclosed, repeated, repeated_err, locals-entered, locals-declared, room}
use Rattle.ntx_resolve.proofs.Lists.{begun, failed_at, gone_on_at, ended_at}
use Rattle.ntx_resolve.proofs.resolver.Resolver.arms.Goals as goal

pub loop-arm-init : goal.loop-arm-init
loop-arm-init g c = record { rest = begun (λ a. limit.excess_of_arm a (scopes.locals c.args.state.now.scope)) (λ s all xs cs. code.IsArms all s xs cs) c.args.arms.now _ c.new-codes.ensures; same = refl }

pub returns-in_err-arm : goal.returns-in_err-arm
returns-in_err-arm g c = failed_at (λ a. limit.excess_of_arm a (scopes.locals c.args.state.now.scope)) (λ s all xs cs. code.IsArms all s xs cs) (λ s all x y. IsArm all s x y) c.args.arms.now c.loop-arm.arm-index c.arm-item.result c.loop-arm.codes _ c.arm-item.is c.loop-arm-test.true c.loop-arm.invariant.rest c.from_residual.ensures.1 (said (ap (λ s. limit.excess_of_arm c.arm-item.result (scopes.locals s)) (sym c.loop-arm.invariant.same)) c.in_err-arm.ensures)

pub returns-in_err-push : goal.returns-in_err-push
returns-in_err-push g c = no_memory_by _ c.from_residual-in_err-push.ensures.1

pub loop-arm-preserved : goal.loop-arm-preserved
loop-arm-preserved g c = record { rest = gone_on_at (λ a. limit.excess_of_arm a (scopes.locals c.args.state.now.scope)) (λ s all xs cs. code.IsArms all s xs cs) (λ s all x y. IsArm all s x y) c.args.arms.now c.loop-arm.arm-index c.arm-item.result c.loop-arm.codes c.push.new.self (λ s all left x xs is are. code.next_arm is.0 is.1.1 are) c.arm-item.is c.loop-arm-test.true c.loop-arm.invariant.rest (said (ap (λ s. limit.excess_of_arm c.arm-item.result (scopes.locals s)) (sym c.loop-arm.invariant.same)) c.in_ok-arm.ensures) c.in_ok-push.ensures.ok; same = stayed c.in_ok-arm.ensures ∙ c.loop-arm.invariant.same }

pub returns : goal.returns
returns g c = ended_at (λ a. limit.excess_of_arm a (scopes.locals c.args.state.now.scope)) (λ s all xs cs. code.IsArms all s xs cs) c.args.arms.now c.loop-arm.arm-index c.loop-arm.codes (λ s all. code.no_arms) c.loop-arm-test.false c.loop-arm.invariant.rest
