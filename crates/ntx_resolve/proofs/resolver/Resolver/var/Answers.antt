use Rattle.std.proofs.Common.{◌≡◌, ◌∙◌, refl, sym, ap, subst, [], ◌∷◌}
use Rattle.ntx_syntax.specs.declared.tree.StatKind.TheVariants as stat
use Rattle.ntx_syntax.specs.declared.tree.Var.TheVariants as var
use Rattle.ntx_resolve.specs.declared.code.StatKind.TheVariants as code-stat
use Rattle.ntx_resolve.specs.declared.code.Var.TheVariants as code-var
use Rattle.ntx_resolve.specs.HasCode as code
use Rattle.ntx_resolve.specs.Limit as limit
use Rattle.ntx_resolve.specs.Scopes as scopes
use Rattle.ntx_resolve.proofs.Arms.{in_var}
use Rattle.ntx_resolve.proofs.Excess as excess
use Rattle.ntx_resolve.proofs.StatExcess as stat-excess
use Rattle.ntx_resolve.proofs.Lists.{begun, failed_at, gone_on_at, ended_at}
use Rattle.ntx_resolve.proofs.Allowing.{allowed, not_allowed}
use Rattle.ntx_resolve.proofs.Resolving.{said, ok, err_by, last, last_err, last_err_by, no_memory_by, done}
use Rattle.ntx_resolve.proofs.resolver.Resolver.var.Goals as goal

pub returns-in_err-copied-in-Name : goal.returns-in_err-copied-in-Name
returns-in_err-copied-in-Name g c = no_memory_by _ c.from_residual.ensures.1

pub returns-in_ok-copied-in-Name : goal.returns-in_ok-copied-in-Name
returns-in_ok-copied-in-Name g c = in_var c.in-Name.is (said (stat-excess.name_var c.in-Name.name) (done (λ all. subst (λ z. code.IsVar all c.args.state.now.scope (var.Name c.in-Name.name) (code-var.Name z c.variable-variable.result)) (sym c.in_ok-copied-in-Name.ensures) (code.name_var c.variable-variable.ensures))))

pub returns-in_err-prefix-in-Index : goal.returns-in_err-prefix-in-Index
returns-in_err-prefix-in-Index g c = in_var (c.in-Index.is ∙ ap (λ z. var.Index z c.in-Index.key) (sym c.get.ensures)) (said (stat-excess.index_var c.get.result.now c.in-Index.key) (err_by _ _ c.from_residual-in_err-prefix-in-Index.ensures.1 c.in_err-prefix-in-Index.ensures))

pub returns-in_err-key-in-Index : goal.returns-in_err-key-in-Index
returns-in_err-key-in-Index g c = in_var (c.in-Index.is ∙ ap (λ z. var.Index z c.in-Index.key) (sym c.get.ensures) ∙ ap (λ z. var.Index c.get.result.now z) (sym c.get-in-Index.ensures)) (said (stat-excess.index_var c.get.result.now c.get-in-Index.result.now) (ok c.in_ok-prefix-in-Index.ensures (last_err_by _ c.from_residual-in_err-key-in-Index.ensures.1 c.in_err-key-in-Index.ensures)))

pub returns-in_ok-key-in-Index : goal.returns-in_ok-key-in-Index
returns-in_ok-key-in-Index g c = in_var (c.in-Index.is ∙ ap (λ z. var.Index z c.in-Index.key) (sym c.get.ensures) ∙ ap (λ z. var.Index c.get.result.now z) (sym c.get-in-Index.ensures)) (said (stat-excess.index_var c.get.result.now c.get-in-Index.result.now) (ok c.in_ok-prefix-in-Index.ensures (last c.in_ok-key-in-Index.ensures (λ s all key prefix. code.index_var prefix key))))

pub returns-in_err-prefix-in-Field : goal.returns-in_err-prefix-in-Field
returns-in_err-prefix-in-Field g c = in_var (c.in-Field.is ∙ ap (λ z. var.Field z c.in-Field.name) (sym c.get-in-Field.ensures)) (said (stat-excess.field_var c.get-in-Field.result.now c.in-Field.name) (last_err_by _ c.from_residual-in_err-prefix-in-Field.ensures.1 c.in_err-prefix-in-Field.ensures))

pub returns-in_err-copied-in-Field : goal.returns-in_err-copied-in-Field
returns-in_err-copied-in-Field g c = no_memory_by _ c.from_residual-in_err-copied-in-Field.ensures.1

pub returns-in_ok-copied-in-Field : goal.returns-in_ok-copied-in-Field
returns-in_ok-copied-in-Field g c = in_var (c.in-Field.is ∙ ap (λ z. var.Field z c.in-Field.name) (sym c.get-in-Field.ensures)) (said (stat-excess.field_var c.get-in-Field.result.now c.in-Field.name) (last c.in_ok-prefix-in-Field.ensures (λ s all is. subst (λ z. code.IsVar all s (var.Field c.get-in-Field.result.now c.in-Field.name) (code-var.Field c.in_ok-prefix-in-Field.prefix z)) (sym c.in_ok-copied-in-Field.ensures) (code.field_var is))))
