use Rattle.std.proofs.Common.{◌≡◌, ◌∙◌, refl, sym, ap, subst, [], ◌∷◌}
use Rattle.ntx_syntax.specs.declared.tree.StatKind.TheVariants as stat
use Rattle.ntx_syntax.specs.declared.tree.Var.TheVariants as var
use Rattle.ntx_resolve.specs.declared.code.StatKind.TheVariants as code-stat
use Rattle.ntx_resolve.specs.declared.code.Var.TheVariants as code-var
use Rattle.ntx_resolve.specs.HasCode as code
use Rattle.ntx_resolve.specs.Limit as limit
use Rattle.ntx_resolve.specs.Scopes as scopes
use Rattle.ntx_resolve.proofs.Arms.{in_var}
use Rattle.ntx_resolve.proofs.Excess as excess
use Rattle.ntx_resolve.proofs.StatExcess as stat-excess
use Rattle.ntx_resolve.proofs.Lists.{begun, failed_at, gone_on_at, ended_at}
use Rattle.ntx_resolve.proofs.Allowing.{allowed, not_allowed}
use Rattle.ntx_resolve.proofs.Resolving.{said, ok, err_by, last, last_err, last_err_by, no_memory_by, done}
use Rattle.ntx_resolve.proofs.Leaving.{said_there, no_memory_there, err_there, allowed_there, not_allowed_there, declared, declared_first, counted}
use Rattle.ntx_resolve.proofs.KindExcess as kinds
use Rattle.ntx_resolve.proofs.resolver.Resolver.local.Goals as goal

pub returns-in_err-has_room_for : goal.returns-in_err-has_room_for
returns-in_err-has_room_for g c = not_allowed_there (limit.excess_of_names (scopes.locals c.args.state.now.scope) c.args.names.now) (limit.excess_of_exps c.args.values.now) _ _ c.from_residual.ensures.1 c.in_err-has_room_for.ensures.allows

pub returns-in_err-values : goal.returns-in_err-values
returns-in_err-values g c = allowed_there c.in_ok-has_room_for.ensures.allows (err_there _ c.from_residual-in_err-values.ensures.1 c.in_err-values.ensures)

pub returns-in_err-declare : goal.returns-in_err-declare
returns-in_err-declare g c = no_memory_there _ c.from_residual-in_err-declare.ensures.1

pub returns-in_err-copied_locals : goal.returns-in_err-copied_locals
returns-in_err-copied_locals g c = no_memory_there _ c.from_residual-in_err-copied_locals.ensures.1

pub returns : goal.returns
returns g c = allowed_there c.in_ok-has_room_for.ensures.allows (declared _ c.args.names.now c.in_ok-values.ensures refl c.in_ok-declare.ensures
    (λ all is. (
      counted (stat.Local c.args.names.now c.args.values.now) c.args.state.now.scope c.args.names.now c.in_ok-has_room_for.ensures.within (kinds.local c.args.names.now c.args.values.now) refl,
      subst (λ z. code.IsKind all c.args.state.now.scope (stat.Local c.args.names.now c.args.values.now) (code-stat.Local z c.in_ok-values.values) (scopes.declare c.args.state.now.scope c.args.names.now)) (sym c.in_ok-copied_locals.ensures)
          (code.local is),
    )))
