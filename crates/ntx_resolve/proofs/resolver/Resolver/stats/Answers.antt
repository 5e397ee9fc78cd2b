use Rattle.std.proofs.Common.{◌≡◌, ◌+◌, ◌∙◌, refl, sym, ap, subst, [], ◌∷◌, length, map, None, Some, arith}
use Rattle.ntx_syntax.specs.declared.tree.StatKind.TheVariants as stat
use Rattle.ntx_syntax.specs.declared.tree.Block as tree-block
use Rattle.ntx_syntax.specs.declared.tree.FunctionBody as tree-body
use Rattle.ntx_syntax.specs.declared.tree.IfArm as tree-arm
use Rattle.ntx_resolve.specs.declared.code.StatKind.TheVariants as code-stat
use Rattle.ntx_resolve.specs.HasCode as code
use Rattle.ntx_resolve.specs.Limit as limit
use Rattle.ntx_resolve.specs.Scopes as scopes
use Rattle.ntx_resolve.specs.inner.Closed.{IsClosed, IsArm}
use Rattle.ntx_resolve.proofs.KindExcess as kinds
use Rattle.ntx_resolve.proofs.Allowing.{allowed, not_allowed}
use Rattle.ntx_resolve.proofs.Resolving.{said, ok, ok_in, stayed, err_by, last, last_here, last_err, last_err_by, no_memory_by, done}
use Rattle.ntx_resolve.proofs.Extending.{err_here, first_err_here, longer_after, longer_from, closed, enclosed, repeated, repeated_err, locals-entered, locals-declared, room}
use Rattle.ntx_resolve.proofs.Leaving.{said_there, no_memory_there, err_by_there, last_err_there, last_there, ok_here, err_here_after}
use Rattle.ntx_resolve.proofs.Stats.{begun, failed_at, gone_on_at, ended_at}
use Rattle.ntx_resolve.proofs.resolver.Resolver.stats.Goals as goal

pub loop-stat-init : goal.loop-stat-init
loop-stat-init g c = begun c.args.stats.now _ c.new-codes.ensures

pub returns-in_err-stat : goal.returns-in_err-stat
returns-in_err-stat g c = failed_at c.args.stats.now c.loop-stat.stat-index c.stat-item.result c.loop-stat.codes _ c.stat-item.is c.loop-stat-test.true c.loop-stat.invariant c.from_residual.ensures.1 c.in_err-stat.ensures

pub returns-in_err-push : goal.returns-in_err-push
returns-in_err-push g c = no_memory_there _ c.from_residual-in_err-push.ensures.1

pub loop-stat-preserved : goal.loop-stat-preserved
loop-stat-preserved g c = gone_on_at c.args.stats.now c.loop-stat.stat-index c.stat-item.result _ c.loop-stat.codes c.push.new.self c.stat-item.is c.loop-stat-test.true c.loop-stat.invariant c.in_ok-stat.ensures c.in_ok-push.ensures.ok

pub returns : goal.returns
returns g c = ended_at c.args.stats.now c.loop-stat.stat-index c.loop-stat.codes c.loop-stat-test.false c.loop-stat.invariant
