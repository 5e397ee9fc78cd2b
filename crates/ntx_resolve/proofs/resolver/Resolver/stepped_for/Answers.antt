use Rattle.std.proofs.Common.{◌≡◌, ◌+◌, ◌∙◌, refl, sym, ap, subst, [], ◌∷◌, length, map, None, Some, arith}
use Rattle.ntx_syntax.specs.declared.tree.StatKind.TheVariants as stat
use Rattle.ntx_syntax.specs.declared.tree.Block as tree-block
use Rattle.ntx_syntax.specs.declared.tree.FunctionBody as tree-body
use Rattle.ntx_syntax.specs.declared.tree.IfArm as tree-arm
use Rattle.ntx_resolve.specs.declared.code.StatKind.TheVariants as code-stat
use Rattle.ntx_resolve.specs.HasCode as code
use Rattle.ntx_resolve.specs.Limit as limit
use Rattle.ntx_resolve.specs.Scopes as scopes
use Rattle.ntx_resolve.specs.inner.Closed.{IsClosed, IsArm}
use Rattle.ntx_resolve.proofs.KindExcess as kinds
use Rattle.ntx_resolve.proofs.Allowing.{allowed, not_allowed}
use Rattle.ntx_resolve.proofs.Resolving.{said, ok, ok_in, stayed, err_by, last, last_here, last_err, last_err_by, no_memory_by, done}
use Rattle.ntx_resolve.proofs.Extending.{err_here, first_err_here, longer_after, longer_from, closed, enclosed, repeated, repeated_err, locals-entered, locals-declared, room}
use Rattle.ntx_resolve.proofs.resolver.Resolver.stepped_for.Goals as goal

pub returns-in_err-has_room_for_one : goal.returns-in_err-has_room_for_one
returns-in_err-has_room_for_one g c = not_allowed (limit.excess_of_names (scopes.locals c.args.state.now.scope) (c.args.name.now ∷ [])) (limit.or_else (limit.excess_of_exp c.args.from.now) (limit.or_else (limit.excess_of_exp c.args.limit.now) (limit.or_else (limit.excess_of_exp c.args.step.now) (limit.excess_of_block c.args.block.now (scopes.locals c.args.state.now.scope + 1))))) _ _ c.from_residual.ensures.1 c.in_err-has_room_for_one.ensures.allows

pub returns-in_err-from : goal.returns-in_err-from
returns-in_err-from g c = allowed c.in_ok-has_room_for_one.ensures.allows (err_by _ _ c.from_residual-in_err-from.ensures.1 c.in_err-from.ensures)

pub returns-in_err-limit : goal.returns-in_err-limit
returns-in_err-limit g c = allowed c.in_ok-has_room_for_one.ensures.allows (ok_in (λ s. limit.or_else (limit.excess_of_exp c.args.limit.now) (limit.or_else (limit.excess_of_exp c.args.step.now) (limit.excess_of_block c.args.block.now (scopes.locals s + 1)))) c.in_ok-from.ensures (err_by _ _ c.from_residual-in_err-limit.ensures.1 c.in_err-limit.ensures))

pub returns-in_err-step : goal.returns-in_err-step
returns-in_err-step g c = allowed c.in_ok-has_room_for_one.ensures.allows (ok_in (λ s. limit.or_else (limit.excess_of_exp c.args.limit.now) (limit.or_else (limit.excess_of_exp c.args.step.now) (limit.excess_of_block c.args.block.now (scopes.locals s + 1)))) c.in_ok-from.ensures (ok_in (λ s. limit.or_else (limit.excess_of_exp c.args.step.now) (limit.excess_of_block c.args.block.now (scopes.locals s + 1))) c.in_ok-limit.ensures (err_by _ _ c.from_residual-in_err-step.ensures.1 c.in_err-step.ensures)))

pub returns-in_err-block : goal.returns-in_err-block
returns-in_err-block g c = allowed c.in_ok-has_room_for_one.ensures.allows (ok_in (λ s. limit.or_else (limit.excess_of_exp c.args.limit.now) (limit.or_else (limit.excess_of_exp c.args.step.now) (limit.excess_of_block c.args.block.now (scopes.locals s + 1)))) c.in_ok-from.ensures (ok_in (λ s. limit.or_else (limit.excess_of_exp c.args.step.now) (limit.excess_of_block c.args.block.now (scopes.locals s + 1))) c.in_ok-limit.ensures (ok_in (λ s. limit.excess_of_block c.args.block.now (scopes.locals s + 1)) c.in_ok-step.ensures (last_err_by _ c.from_residual-in_err-block.ensures.1 c.in_err-block.ensures))))

pub returns-in_err-copied_local : goal.returns-in_err-copied_local
returns-in_err-copied_local g c = no_memory_by _ c.from_residual-in_err-copied_local.ensures.1

pub returns-in_err-name : goal.returns-in_err-name
returns-in_err-name g c = no_memory_by _ c.from_residual-in_err-name.ensures.1

pub returns : goal.returns
returns g c = allowed c.in_ok-has_room_for_one.ensures.allows (ok_in (λ s. limit.or_else (limit.excess_of_exp c.args.limit.now) (limit.or_else (limit.excess_of_exp c.args.step.now) (limit.excess_of_block c.args.block.now (scopes.locals s + 1)))) c.in_ok-from.ensures (ok_in (λ s. limit.or_else (limit.excess_of_exp c.args.step.now) (limit.excess_of_block c.args.block.now (scopes.locals s + 1))) c.in_ok-limit.ensures (ok_in (λ s. limit.excess_of_block c.args.block.now (scopes.locals s + 1)) c.in_ok-step.ensures (last c.in_ok-block.ensures (λ s all block step limit from. subst (λ z. code.IsKind all s (stat.NumericFor c.args.name.now c.args.from.now c.args.limit.now (Some c.args.step.now) c.args.block.now) (code-stat.NumericFor z c.in_ok-from.from c.in_ok-limit.limit (Some c.in_ok-step.step) c.in_ok-block.block) s) (sym (c.in_ok-name.ensures ∙ c.in_ok-copied_local.ensures)) (code.numeric_for from limit (code.step step) block.1))))))
