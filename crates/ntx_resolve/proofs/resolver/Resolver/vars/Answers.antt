use Rattle.std.proofs.Common.{◌≡◌, ◌∙◌, refl, sym, ap, subst, [], ◌∷◌}
use Rattle.ntx_syntax.specs.declared.tree.StatKind.TheVariants as stat
use Rattle.ntx_syntax.specs.declared.tree.Var.TheVariants as var
use Rattle.ntx_resolve.specs.declared.code.StatKind.TheVariants as code-stat
use Rattle.ntx_resolve.specs.declared.code.Var.TheVariants as code-var
use Rattle.ntx_resolve.specs.HasCode as code
use Rattle.ntx_resolve.specs.Limit as limit
use Rattle.ntx_resolve.specs.Scopes as scopes
use Rattle.ntx_resolve.proofs.Arms.{in_var}
use Rattle.ntx_resolve.proofs.Excess as excess
use Rattle.ntx_resolve.proofs.StatExcess as stat-excess
use Rattle.ntx_resolve.proofs.Lists.{begun, failed_at, gone_on_at, ended_at}
use Rattle.ntx_resolve.proofs.Allowing.{allowed, not_allowed}
use Rattle.ntx_resolve.proofs.Resolving.{said, ok, err_by, last, last_err, last_err_by, no_memory_by, done}
use Rattle.ntx_resolve.proofs.resolver.Resolver.vars.Goals as goal

pub loop-var-init : goal.loop-var-init
loop-var-init g c = begun limit.excess_of_var (λ s all xs cs. code.IsVars all s xs cs) c.args.vars.now _ c.new-codes.ensures

pub returns-in_err-var : goal.returns-in_err-var
returns-in_err-var g c = failed_at limit.excess_of_var (λ s all xs cs. code.IsVars all s xs cs) (λ s all x y. code.IsVar all s x y) c.args.vars.now c.loop-var.var-index c.var-item.result c.loop-var.codes _ c.var-item.is c.loop-var-test.true c.loop-var.invariant c.from_residual.ensures.1 c.in_err-var.ensures

pub returns-in_err-push : goal.returns-in_err-push
returns-in_err-push g c = no_memory_by _ c.from_residual-in_err-push.ensures.1

pub loop-var-preserved : goal.loop-var-preserved
loop-var-preserved g c = gone_on_at limit.excess_of_var (λ s all xs cs. code.IsVars all s xs cs) (λ s all x y. code.IsVar all s x y) c.args.vars.now c.loop-var.var-index c.var-item.result c.loop-var.codes c.push.new.self (λ s all left x xs is are. code.next_var is are) c.var-item.is c.loop-var-test.true c.loop-var.invariant c.in_ok-var.ensures c.in_ok-push.ensures.ok

pub returns : goal.returns
returns g c = ended_at limit.excess_of_var (λ s all xs cs. code.IsVars all s xs cs) c.args.vars.now c.loop-var.var-index c.loop-var.codes (λ s all. code.no_vars) c.loop-var-test.false c.loop-var.invariant
