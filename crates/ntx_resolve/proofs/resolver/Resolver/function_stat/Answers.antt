use Rattle.std.proofs.Common.{◌≡◌, ◌∙◌, refl, sym, ap, subst, [], ◌∷◌}
use Rattle.ntx_syntax.specs.declared.tree.StatKind.TheVariants as stat
use Rattle.ntx_syntax.specs.declared.tree.Var.TheVariants as var
use Rattle.ntx_resolve.specs.declared.code.StatKind.TheVariants as code-stat
use Rattle.ntx_resolve.specs.declared.code.Var.TheVariants as code-var
use Rattle.ntx_resolve.specs.HasCode as code
use Rattle.ntx_resolve.specs.Limit as limit
use Rattle.ntx_resolve.specs.Scopes as scopes
use Rattle.ntx_resolve.proofs.Arms.{in_var}
use Rattle.ntx_resolve.proofs.Excess as excess
use Rattle.ntx_resolve.proofs.StatExcess as stat-excess
use Rattle.ntx_resolve.proofs.Lists.{begun, failed_at, gone_on_at, ended_at}
use Rattle.ntx_resolve.proofs.Allowing.{allowed, not_allowed}
use Rattle.ntx_resolve.proofs.Resolving.{said, ok, err_by, last, last_here, last_err, last_err_by, no_memory_by, done}
use Rattle.ntx_resolve.proofs.resolver.Resolver.function_stat.Goals as goal

pub returns-in_err-number : goal.returns-in_err-number
returns-in_err-number g c = last_err_by _ c.from_residual.ensures.1 c.in_err-number.ensures

pub returns-in_err-name : goal.returns-in_err-name
returns-in_err-name g c = no_memory_by _ c.from_residual-in_err-name.ensures.1

pub returns-in_err-path : goal.returns-in_err-path
returns-in_err-path g c = no_memory_by _ c.from_residual-in_err-path.ensures.1

pub returns : goal.returns
returns g c = last_here c.in_ok-number.ensures (λ all is.
    subst (λ z. code.IsKind all c.args.state.now.scope (stat.Function c.args.name.now c.args.path.now c.args.body.now) (code-stat.Function z c.variable-variable.result c.in_ok-path.path c.in_ok-number.number) c.args.state.now.scope) (sym c.in_ok-name.ensures)
    (subst (λ z. code.IsKind all c.args.state.now.scope (stat.Function c.args.name.now c.args.path.now c.args.body.now) (code-stat.Function c.args.name.now c.variable-variable.result z c.in_ok-number.number) c.args.state.now.scope) (sym c.in_ok-path.ensures)
    (code.function_stat c.variable-variable.ensures is)))
