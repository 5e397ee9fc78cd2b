use Rattle.std.proofs.Common.{◌≡◌, ◌∙◌, refl, sym, ap, subst, [], ◌∷◌}
use Rattle.ntx_syntax.specs.declared.tree.StatKind.TheVariants as stat
use Rattle.ntx_syntax.specs.declared.tree.Var.TheVariants as var
use Rattle.ntx_resolve.specs.declared.code.StatKind.TheVariants as code-stat
use Rattle.ntx_resolve.specs.declared.code.Var.TheVariants as code-var
use Rattle.ntx_resolve.specs.HasCode as code
use Rattle.ntx_resolve.specs.Limit as limit
use Rattle.ntx_resolve.specs.Scopes as scopes
use Rattle.ntx_resolve.proofs.Arms.{in_var}
use Rattle.ntx_resolve.proofs.Excess as excess
use Rattle.ntx_resolve.proofs.StatExcess as stat-excess
use Rattle.ntx_resolve.proofs.Lists.{begun, failed_at, gone_on_at, ended_at}
use Rattle.ntx_resolve.proofs.Allowing.{allowed, not_allowed}
use Rattle.ntx_resolve.proofs.Resolving.{said, ok, err_by, last, last_err, last_err_by, no_memory_by, done}
use Rattle.ntx_resolve.proofs.Leaving.{said_there, no_memory_there, err_there, allowed_there, not_allowed_there, declared, declared_first, counted}
use Rattle.ntx_resolve.proofs.KindExcess as kinds
use Rattle.ntx_resolve.proofs.resolver.Resolver.local_function.Goals as goal

pub returns-in_err-has_room_for_one : goal.returns-in_err-has_room_for_one
returns-in_err-has_room_for_one g c = not_allowed_there (limit.excess_of_names (scopes.locals c.args.state.now.scope) (c.args.name.now ∷ [])) (limit.excess_of_body c.args.body.now) _ _ c.from_residual.ensures.1 c.in_err-has_room_for_one.ensures.allows

pub returns-in_err-declare_one : goal.returns-in_err-declare_one
returns-in_err-declare_one g c = no_memory_there _ c.from_residual-in_err-declare_one.ensures.1

pub returns-in_err-number : goal.returns-in_err-number
returns-in_err-number g c = allowed_there c.in_ok-has_room_for_one.ensures.allows (err_there _ c.from_residual-in_err-number.ensures.1 c.in_err-number.ensures)

pub returns-in_err-copied_local : goal.returns-in_err-copied_local
returns-in_err-copied_local g c = no_memory_there _ c.from_residual-in_err-copied_local.ensures.1

pub returns : goal.returns
returns g c = allowed_there c.in_ok-has_room_for_one.ensures.allows (declared_first (c.args.name.now ∷ []) refl c.in_ok-declare_one.ensures c.in_ok-number.ensures
    (λ all is. (
      counted (stat.LocalFunction c.args.name.now c.args.body.now) c.args.state.now.scope (c.args.name.now ∷ []) c.in_ok-has_room_for_one.ensures.within (kinds.local_function c.args.name.now c.args.body.now) refl,
      subst (λ z. code.IsKind all c.args.state.now.scope (stat.LocalFunction c.args.name.now c.args.body.now) (code-stat.LocalFunction z c.in_ok-number.number) (scopes.declare c.args.state.now.scope (c.args.name.now ∷ []))) (sym c.in_ok-copied_local.ensures)
          (code.local_function is),
    )))
