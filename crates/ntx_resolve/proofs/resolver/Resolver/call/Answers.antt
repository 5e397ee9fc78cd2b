use Rattle.std.proofs.Common.{◌≡◌, ◌∙◌, refl, sym, ap, subst, [], ◌∷◌}
use Rattle.ntx_syntax.specs.declared.tree.StatKind.TheVariants as stat
use Rattle.ntx_syntax.specs.declared.tree.Var.TheVariants as var
use Rattle.ntx_resolve.specs.declared.code.StatKind.TheVariants as code-stat
use Rattle.ntx_resolve.specs.declared.code.Var.TheVariants as code-var
use Rattle.ntx_resolve.specs.HasCode as code
use Rattle.ntx_resolve.specs.Limit as limit
use Rattle.ntx_resolve.specs.Scopes as scopes
use Rattle.ntx_resolve.proofs.Arms.{in_var}
use Rattle.ntx_resolve.proofs.Excess as excess
use Rattle.ntx_resolve.proofs.StatExcess as stat-excess
use Rattle.ntx_resolve.proofs.Lists.{begun, failed_at, gone_on_at, ended_at}
use Rattle.ntx_resolve.proofs.Allowing.{allowed, not_allowed}
use Rattle.ntx_resolve.proofs.Resolving.{said, ok, err_by, last, last_err, last_err_by, no_memory_by, done}
use Rattle.ntx_resolve.proofs.resolver.Resolver.call.Goals as goal

pub returns-in_err-function : goal.returns-in_err-function
returns-in_err-function g c = said (stat-excess.call c.args.call.now) (err_by _ _ c.from_residual.ensures.1 c.in_err-function.ensures)

pub returns-in_err-arguments : goal.returns-in_err-arguments
returns-in_err-arguments g c = said (stat-excess.call c.args.call.now ∙ ap (λ z. limit.or_else (limit.excess_of_prefix c.args.call.now.function) (limit.excess_of_exps z)) (sym c.as_slice.ensures)) (ok c.in_ok-function.ensures (last_err_by _ c.from_residual-in_err-arguments.ensures.1 c.in_err-arguments.ensures))

pub returns-in_err-call : goal.returns-in_err-call
returns-in_err-call g c = no_memory_by _ c.from_residual-in_err-call.ensures.1

pub returns : goal.returns
returns g c = said (stat-excess.call c.args.call.now ∙ ap (λ z. limit.or_else (limit.excess_of_prefix c.args.call.now.function) (limit.excess_of_exps z)) (sym c.as_slice.ensures)) (ok c.in_ok-function.ensures (last c.in_ok-arguments.ensures (λ s all arguments function. subst (λ z. code.IsKind all s (stat.Call c.args.call.now) (code-stat.Call z) s) (sym c.in_ok-call.ensures) (code.call function (subst (λ z. code.IsExps all s z c.in_ok-arguments.arguments) c.as_slice.ensures arguments)))))
