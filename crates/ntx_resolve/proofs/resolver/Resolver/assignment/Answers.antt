use Rattle.std.proofs.Common.{◌≡◌, ◌∙◌, refl, sym, ap, subst, [], ◌∷◌}
use Rattle.ntx_syntax.specs.declared.tree.StatKind.TheVariants as stat
use Rattle.ntx_syntax.specs.declared.tree.Var.TheVariants as var
use Rattle.ntx_resolve.specs.declared.code.StatKind.TheVariants as code-stat
use Rattle.ntx_resolve.specs.declared.code.Var.TheVariants as code-var
use Rattle.ntx_resolve.specs.HasCode as code
use Rattle.ntx_resolve.specs.Limit as limit
use Rattle.ntx_resolve.specs.Scopes as scopes
use Rattle.ntx_resolve.proofs.Arms.{in_var}
use Rattle.ntx_resolve.proofs.Excess as excess
use Rattle.ntx_resolve.proofs.StatExcess as stat-excess
use Rattle.ntx_resolve.proofs.Lists.{begun, failed_at, gone_on_at, ended_at}
use Rattle.ntx_resolve.proofs.Allowing.{allowed, not_allowed}
use Rattle.ntx_resolve.proofs.Resolving.{said, ok, err_by, last, last_err, last_err_by, no_memory_by, done}
use Rattle.ntx_resolve.proofs.resolver.Resolver.assignment.Goals as goal

pub returns-in_err-vars : goal.returns-in_err-vars
returns-in_err-vars g c = err_by _ _ c.from_residual.ensures.1 c.in_err-vars.ensures

pub returns-in_err-values : goal.returns-in_err-values
returns-in_err-values g c = ok c.in_ok-vars.ensures (last_err_by _ c.from_residual-in_err-values.ensures.1 c.in_err-values.ensures)

pub returns : goal.returns
returns g c = ok c.in_ok-vars.ensures (last c.in_ok-values.ensures (λ s all values vars. code.assign vars values))
