use Rattle.std.proofs.Common.{◌≡◌, ◌+◌, ◌∙◌, refl, sym, ap, subst, [], ◌∷◌, length, map, None, Some, arith}
use Rattle.ntx_syntax.specs.declared.tree.StatKind.TheVariants as stat
use Rattle.ntx_syntax.specs.declared.tree.Block as tree-block
use Rattle.ntx_syntax.specs.declared.tree.FunctionBody as tree-body
use Rattle.ntx_syntax.specs.declared.tree.IfArm as tree-arm
use Rattle.ntx_resolve.specs.declared.code.StatKind.TheVariants as code-stat
use Rattle.ntx_resolve.specs.HasCode as code
use Rattle.ntx_resolve.specs.Limit as limit
use Rattle.ntx_resolve.specs.Scopes as scopes
use Rattle.ntx_resolve.specs.inner.Closed.{IsClosed, IsArm}
use Rattle.ntx_resolve.proofs.KindExcess as kinds
use Rattle.ntx_resolve.proofs.Allowing.{allowed, not_allowed}
use Rattle.ntx_resolve.proofs.Resolving.{said, ok, ok_in, stayed, err_by, last, last_here, last_err, last_err_by, no_memory_by, done}
use Rattle.ntx_resolve.proofs.Extending.{err_here, first_err_here, longer_after, longer_from, closed, enclosed, repeated, repeated_err, locals-entered, locals-declared, room}
use Rattle.ntx_resolve.proofs.resolver.Resolver.generic_for.Goals as goal

pub returns-in_err-has_room_for : goal.returns-in_err-has_room_for
returns-in_err-has_room_for g c = not_allowed (limit.excess_of_names (scopes.locals c.args.state.now.scope) c.args.names.now) (limit.or_else (limit.excess_of_exps c.args.values.now) (limit.excess_of_block c.args.block.now (scopes.locals c.args.state.now.scope + length c.args.names.now))) _ _ c.from_residual.ensures.1 c.in_err-has_room_for.ensures.allows

pub returns-in_err-values : goal.returns-in_err-values
returns-in_err-values g c = allowed c.in_ok-has_room_for.ensures.allows (err_by _ _ c.from_residual-in_err-values.ensures.1 c.in_err-values.ensures)

pub returns-in_err-block : goal.returns-in_err-block
returns-in_err-block g c = allowed c.in_ok-has_room_for.ensures.allows (ok_in (λ s. limit.excess_of_block c.args.block.now (scopes.locals s + length c.args.names.now)) c.in_ok-values.ensures (last_err_by _ c.from_residual-in_err-block.ensures.1 c.in_err-block.ensures))

pub returns-in_err-copied_locals : goal.returns-in_err-copied_locals
returns-in_err-copied_locals g c = no_memory_by _ c.from_residual-in_err-copied_locals.ensures.1

pub returns : goal.returns
returns g c = allowed c.in_ok-has_room_for.ensures.allows (ok_in (λ s. limit.excess_of_block c.args.block.now (scopes.locals s + length c.args.names.now)) c.in_ok-values.ensures (last c.in_ok-block.ensures (λ s all block values. subst (λ z. code.IsKind all s (stat.GenericFor c.args.names.now c.args.values.now c.args.block.now) (code-stat.GenericFor z c.in_ok-values.values c.in_ok-block.block) s) (sym c.in_ok-copied_locals.ensures) (code.generic_for values block.1))))
