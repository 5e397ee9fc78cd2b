use Rattle.std.proofs.Common.{◌≡◌, ◌+◌, ◌∙◌, refl, sym, ap, subst, [], ◌∷◌, length, map, None, Some, arith}
use Rattle.ntx_syntax.specs.declared.tree.StatKind.TheVariants as stat
use Rattle.ntx_syntax.specs.declared.tree.Block as tree-block
use Rattle.ntx_syntax.specs.declared.tree.FunctionBody as tree-body
use Rattle.ntx_syntax.specs.declared.tree.IfArm as tree-arm
use Rattle.ntx_resolve.specs.declared.code.StatKind.TheVariants as code-stat
use Rattle.ntx_resolve.specs.HasCode as code
use Rattle.ntx_resolve.specs.Limit as limit
use Rattle.ntx_resolve.specs.Scopes as scopes
use Rattle.ntx_resolve.specs.inner.Closed.{IsClosed, IsArm}
use Rattle.ntx_resolve.proofs.KindExcess as kinds
use Rattle.ntx_resolve.proofs.Allowing.{allowed, not_allowed}
use Rattle.ntx_resolve.proofs.Resolving.{said, ok, ok_in, stayed, err_by, last, last_here, last_err, last_err_by, no_memory_by, done}
use Rattle.ntx_resolve.proofs.Extending.{err_here, first_err_here, longer_after, longer_from, closed, enclosed, repeated, repeated_err, locals-entered, locals-declared, room}
use Rattle.ntx_resolve.proofs.resolver.Resolver.body.Goals as goal

pub returns-in_err-has_room_for : goal.returns-in_err-has_room_for
returns-in_err-has_room_for g c = said (kinds.body c.args.body.now ∙ ap (λ x. limit.or_else x (limit.excess_of_block (tree-body.out-FunctionBody c.args.body.now).block (length ((tree-body.out-FunctionBody c.args.body.now).parameters)))) (sym (room c.args.state.now.scope c.enter.new.self c.as_slice-names.result.now ((tree-body.out-FunctionBody c.args.body.now).parameters) c.enter.ensures c.as_slice-names.ensures))) (not_allowed (limit.excess_of_names (scopes.locals c.enter.new.self) c.as_slice-names.result.now) (limit.excess_of_block (tree-body.out-FunctionBody c.args.body.now).block (length ((tree-body.out-FunctionBody c.args.body.now).parameters))) _ _ c.from_residual.ensures.1 c.in_err-has_room_for.ensures.allows)

pub returns-in_err-declare : goal.returns-in_err-declare
returns-in_err-declare g c = no_memory_by _ c.from_residual-in_err-declare.ensures.1

pub returns-in_err-block : goal.returns-in_err-block
returns-in_err-block g c = said (kinds.body c.args.body.now) (allowed (sym (room c.args.state.now.scope c.enter.new.self c.as_slice-names.result.now ((tree-body.out-FunctionBody c.args.body.now).parameters) c.enter.ensures c.as_slice-names.ensures) ∙ c.in_ok-has_room_for.ensures.allows) (said (ap (limit.excess_of_block (tree-body.out-FunctionBody c.args.body.now).block) (sym (ap scopes.locals (c.in_ok-declare.ensures ∙ ap (λ e. scopes.declare e c.as_slice-names.result.now) c.enter.ensures ∙ ap (scopes.declare (scopes.enter c.args.state.now.scope)) c.as_slice-names.ensures) ∙ locals-entered c.args.state.now.scope ((tree-body.out-FunctionBody c.args.body.now).parameters)))) (err_here _ c.from_residual-in_err-block.ensures.1 c.in_err-block.ensures)))

pub leave-requires-clause-declared : goal.leave-requires-clause-declared
leave-requires-clause-declared g c = let l = longer_from (scopes.declare (scopes.enter c.args.state.now.scope) ((tree-body.out-FunctionBody c.args.body.now).parameters)) c.args.state.now.scope (map (λ n. n.name) ((tree-body.out-FunctionBody c.args.body.now).parameters)) refl (c.in_ok-declare.ensures ∙ ap (λ e. scopes.declare e c.as_slice-names.result.now) c.enter.ensures ∙ ap (scopes.declare (scopes.enter c.args.state.now.scope)) c.as_slice-names.ensures) c.in_ok-block.ensures in omega (arith, l)

pub returns-in_err-parameters : goal.returns-in_err-parameters
returns-in_err-parameters g c = no_memory_by _ c.from_residual-in_err-parameters.ensures.1

pub returns : goal.returns
returns g c = said (kinds.body c.args.body.now) (allowed (sym (room c.args.state.now.scope c.enter.new.self c.as_slice-names.result.now ((tree-body.out-FunctionBody c.args.body.now).parameters) c.enter.ensures c.as_slice-names.ensures) ∙ c.in_ok-has_room_for.ensures.allows) (said (ap (limit.excess_of_block (tree-body.out-FunctionBody c.args.body.now).block) (sym (locals-entered c.args.state.now.scope ((tree-body.out-FunctionBody c.args.body.now).parameters)))) (last (enclosed (λ s. scopes.declare (scopes.enter s) ((tree-body.out-FunctionBody c.args.body.now).parameters)) (map (λ n. n.name) ((tree-body.out-FunctionBody c.args.body.now).parameters)) _ refl refl (c.in_ok-declare.ensures ∙ ap (λ e. scopes.declare e c.as_slice-names.result.now) c.enter.ensures ∙ ap (scopes.declare (scopes.enter c.args.state.now.scope)) c.as_slice-names.ensures) c.in_ok-block.ensures refl _ _ c.mark-mark.ensures.names c.mark-mark.ensures.from c.leave.ensures) (λ s all is. (c.in_ok-parameters.ensures ∙ c.as_slice-names.ensures, is)))))
