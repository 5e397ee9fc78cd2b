use Rattle.std.proofs.Common.{◌≡◌, ◌∙◌, refl, sym, ap, subst, [], ◌∷◌}
use Rattle.ntx_syntax.specs.declared.tree.StatKind.TheVariants as stat
use Rattle.ntx_syntax.specs.declared.tree.Var.TheVariants as var
use Rattle.ntx_resolve.specs.declared.code.StatKind.TheVariants as code-stat
use Rattle.ntx_resolve.specs.declared.code.Var.TheVariants as code-var
use Rattle.ntx_resolve.specs.HasCode as code
use Rattle.ntx_resolve.specs.Limit as limit
use Rattle.ntx_resolve.specs.Scopes as scopes
use Rattle.ntx_resolve.proofs.Arms.{in_var}
use Rattle.ntx_resolve.proofs.Excess as excess
use Rattle.ntx_resolve.proofs.StatExcess as stat-excess
use Rattle.ntx_resolve.proofs.Lists.{begun, failed_at, gone_on_at, ended_at}
use Rattle.ntx_resolve.proofs.Allowing.{allowed, not_allowed}
use Rattle.ntx_resolve.proofs.Resolving.{said, ok, err_by, last, last_err, last_err_by, no_memory_by, done}
use Rattle.ntx_resolve.proofs.resolver.Resolver.boxed_prefix.Goals as goal

pub returns-in_err-code : goal.returns-in_err-code
returns-in_err-code g c = last_err_by _ c.from_residual.ensures.1 c.in_err-code.ensures

pub returns-in_err-new : goal.returns-in_err-new
returns-in_err-new g c = no_memory_by _ c.from_residual-in_err-new.ensures.1

pub returns : goal.returns
returns g c = last c.in_ok-code.ensures (λ s all is. subst (λ z. code.IsPrefix all s c.args.prefix.now z) (sym c.in_ok-new.ensures) is)
