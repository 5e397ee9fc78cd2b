use Rattle.std.proofs.Common.{◌≡◌, ◌+◌, ◌∙◌, refl, sym, ap, subst, [], ◌∷◌, length, map, None, Some, arith}
use Rattle.ntx_syntax.specs.declared.tree.StatKind.TheVariants as stat
use Rattle.ntx_syntax.specs.declared.tree.Block as tree-block
use Rattle.ntx_syntax.specs.declared.tree.FunctionBody as tree-body
use Rattle.ntx_syntax.specs.declared.tree.IfArm as tree-arm
use Rattle.ntx_resolve.specs.declared.code.StatKind.TheVariants as code-stat
use Rattle.ntx_resolve.specs.HasCode as code
use Rattle.ntx_resolve.specs.Limit as limit
use Rattle.ntx_resolve.specs.Scopes as scopes
use Rattle.ntx_resolve.specs.inner.Closed.{IsClosed, IsArm}
use Rattle.ntx_resolve.proofs.KindExcess as kinds
use Rattle.ntx_resolve.proofs.Allowing.{allowed, not_allowed}
use Rattle.ntx_resolve.proofs.Resolving.{said, ok, ok_in, stayed, err_by, last, last_here, last_err, last_err_by, no_memory_by, done}
use Rattle.ntx_resolve.proofs.Extending.{err_here, first_err_here, longer_after, longer_from, closed, enclosed, repeated, repeated_err, locals-entered, locals-declared, room}
use Rattle.ntx_resolve.proofs.resolver.Resolver.loop_block.Goals as goal

pub returns-in_err-declare : goal.returns-in_err-declare
returns-in_err-declare g c = no_memory_by _ c.from_residual.ensures.1

pub returns-in_err-code : goal.returns-in_err-code
returns-in_err-code g c = let w = c.mark-mark.ensures.within in said (ap (limit.excess_of_block c.args.block.now) (sym (ap scopes.locals c.in_ok-declare.ensures ∙ locals-declared c.args.state.now.scope c.args.names.now (omega (arith, w, c.mark-mark.ensures.names, c.mark-mark.ensures.from))))) (err_here _ c.from_residual-in_err-code.ensures.1 c.in_err-code.ensures)

pub leave-requires-clause-declared : goal.leave-requires-clause-declared
leave-requires-clause-declared g c = let l = longer_from (scopes.declare c.args.state.now.scope c.args.names.now) c.args.state.now.scope (map (λ n. n.name) c.args.names.now) refl c.in_ok-declare.ensures c.in_ok-code.ensures in omega (arith, l)

pub returns-in_err-new : goal.returns-in_err-new
returns-in_err-new g c = no_memory_by _ c.from_residual-in_err-new.ensures.1

pub returns : goal.returns
returns g c = let w = c.mark-mark.ensures.within in said (ap (limit.excess_of_block c.args.block.now) (sym (locals-declared c.args.state.now.scope c.args.names.now (omega (arith, w, c.mark-mark.ensures.names, c.mark-mark.ensures.from))))) (last (enclosed (λ s. scopes.declare s c.args.names.now) (map (λ n. n.name) c.args.names.now) _ refl refl c.in_ok-declare.ensures c.in_ok-code.ensures refl _ _ c.mark-mark.ensures.names c.mark-mark.ensures.from c.leave.ensures) (λ s all is. subst (λ z. IsClosed all (scopes.declare s c.args.names.now) c.args.block.now z) (sym c.in_ok-new.ensures) is))
