use Rattle.std.proofs.Common.{◌≡◌, ◌∙◌, refl, sym, ap, subst, [], ◌∷◌}
use Rattle.ntx_syntax.specs.declared.tree.StatKind.TheVariants as stat
use Rattle.ntx_syntax.specs.declared.tree.Var.TheVariants as var
use Rattle.ntx_resolve.specs.declared.code.StatKind.TheVariants as code-stat
use Rattle.ntx_resolve.specs.declared.code.Var.TheVariants as code-var
use Rattle.ntx_resolve.specs.HasCode as code
use Rattle.ntx_resolve.specs.Limit as limit
use Rattle.ntx_resolve.specs.Scopes as scopes
use Rattle.ntx_resolve.proofs.Arms.{in_var}
use Rattle.ntx_resolve.proofs.Excess as excess
use Rattle.ntx_resolve.proofs.StatExcess as stat-excess
use Rattle.ntx_resolve.proofs.Lists.{begun, failed_at, gone_on_at, ended_at}
use Rattle.ntx_resolve.proofs.Allowing.{allowed, not_allowed}
use Rattle.ntx_resolve.proofs.Resolving.{said, ok, err_by, last, last_err, last_err_by, no_memory_by, done}
use Rattle.ntx_resolve.proofs.resolver.Resolver.prefix.Goals as goal

pub returns-in_err-head : goal.returns-in_err-head
returns-in_err-head g c = said (excess.prefix c.args.prefix.now) (err_by _ _ c.from_residual.ensures.1 c.in_err-head.ensures)

pub returns-in_err-suffixes : goal.returns-in_err-suffixes
returns-in_err-suffixes g c = said (excess.prefix c.args.prefix.now ∙ ap (λ z. limit.or_else (limit.excess_of_head c.args.prefix.now.head) (limit.excess_of_suffixes z)) (sym c.as_slice.ensures)) (ok c.in_ok-head.ensures (last_err_by _ c.from_residual-in_err-suffixes.ensures.1 c.in_err-suffixes.ensures))

pub returns : goal.returns
returns g c = said (excess.prefix c.args.prefix.now ∙ ap (λ z. limit.or_else (limit.excess_of_head c.args.prefix.now.head) (limit.excess_of_suffixes z)) (sym c.as_slice.ensures)) (ok c.in_ok-head.ensures (last c.in_ok-suffixes.ensures (λ s all suffixes head. code.prefix head (subst (λ z. code.IsSuffixes all s z c.in_ok-suffixes.suffixes) c.as_slice.ensures suffixes))))
