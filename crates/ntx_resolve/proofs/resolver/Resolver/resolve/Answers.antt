use Rattle.std.proofs.Common.{◌≡◌, ◌+◌, ◌∙◌, refl, sym, ap, subst, [], ◌∷◌, length, map, None, Some, arith}
use Rattle.ntx_syntax.specs.declared.tree.StatKind.TheVariants as stat
use Rattle.ntx_syntax.specs.declared.tree.Block as tree-block
use Rattle.ntx_syntax.specs.declared.tree.FunctionBody as tree-body
use Rattle.ntx_syntax.specs.declared.tree.IfArm as tree-arm
use Rattle.ntx_resolve.specs.declared.code.StatKind.TheVariants as code-stat
use Rattle.ntx_resolve.specs.HasCode as code
use Rattle.ntx_resolve.specs.Limit as limit
use Rattle.ntx_resolve.specs.Scopes as scopes
use Rattle.ntx_resolve.specs.inner.Closed.{IsClosed, IsArm}
use Rattle.ntx_resolve.proofs.KindExcess as kinds
use Rattle.ntx_resolve.proofs.Allowing.{allowed, not_allowed}
use Rattle.ntx_resolve.proofs.Resolving.{said, ok, ok_in, stayed, err_by, last, last_here, last_err, last_err_by, no_memory_by, done}
use Rattle.ntx_resolve.proofs.Extending.{err_here, first_err_here, longer_after, longer_from, closed, enclosed, repeated, repeated_err, locals-entered, locals-declared, room}
use Rattle.ntx_resolve.proofs.Leaving.{said_there, no_memory_there, err_by_there, last_err_there, last_there, ok_here, err_here_after}
use Rattle.ntx_resolve.proofs.Rolls.{block_made}
use Rattle.ntx_resolve.proofs.resolver.Resolver.resolve.Goals as goal

pub returns-in_err-stats : goal.returns-in_err-stats
returns-in_err-stats g c = said_there (kinds.block c.args.self.now.within.now (scopes.locals c.args.state.now.scope) ∙ ap (λ z. limit.or_else (limit.excess_of_stats (scopes.locals c.args.state.now.scope) z) (limit.excess_of_last (tree-block.out-Block c.args.self.now.within.now).last)) (sym c.as_slice.ensures)) (err_by_there _ _ c.from_residual.ensures.1 c.in_err-stats.ensures)

pub returns-in-None : goal.returns-in-None
returns-in-None g c = said_there (kinds.block c.args.self.now.within.now (scopes.locals c.args.state.now.scope) ∙ ap (λ z. limit.or_else (limit.excess_of_stats (scopes.locals c.args.state.now.scope) z) (limit.excess_of_last (tree-block.out-Block c.args.self.now.within.now).last)) (sym c.as_slice.ensures) ∙ ap (λ z. limit.or_else (limit.excess_of_stats (scopes.locals c.args.state.now.scope) c.as_slice.result.now) (limit.excess_of_last z)) c.in-None.is ∙ kinds.or_none (limit.excess_of_stats (scopes.locals c.args.state.now.scope) c.as_slice.result.now)) (last_there c.in_ok-stats.ensures (λ s t all is. block_made (subst (λ z. code.IsStats all s z c.in_ok-stats.stats t) c.as_slice.ensures is) (subst (λ o. code.IsReturn all t o None) (sym c.in-None.is) code.no_return)))

pub returns-in_err-last-in-Some : goal.returns-in_err-last-in-Some
returns-in_err-last-in-Some g c = said_there (kinds.block c.args.self.now.within.now (scopes.locals c.args.state.now.scope) ∙ ap (λ z. limit.or_else (limit.excess_of_stats (scopes.locals c.args.state.now.scope) z) (limit.excess_of_last (tree-block.out-Block c.args.self.now.within.now).last)) (sym c.as_slice.ensures) ∙ ap (λ z. limit.or_else (limit.excess_of_stats (scopes.locals c.args.state.now.scope) c.as_slice.result.now) (limit.excess_of_last z)) c.in-Some.is) (err_here_after _ c.from_residual-in_err-last-in-Some.ensures.1 c.in_ok-stats.ensures c.in_err-last-in-Some.ensures)

pub returns-in_ok-last-in-Some : goal.returns-in_ok-last-in-Some
returns-in_ok-last-in-Some g c = said_there (kinds.block c.args.self.now.within.now (scopes.locals c.args.state.now.scope) ∙ ap (λ z. limit.or_else (limit.excess_of_stats (scopes.locals c.args.state.now.scope) z) (limit.excess_of_last (tree-block.out-Block c.args.self.now.within.now).last)) (sym c.as_slice.ensures) ∙ ap (λ z. limit.or_else (limit.excess_of_stats (scopes.locals c.args.state.now.scope) c.as_slice.result.now) (limit.excess_of_last z)) c.in-Some.is) (ok_here c.in_ok-stats.ensures c.in_ok-last-in-Some.ensures (λ s t all is returned. block_made (subst (λ z. code.IsStats all s z c.in_ok-stats.stats t) c.as_slice.ensures is) (subst (λ o. code.IsReturn all t o (Some c.in_ok-last-in-Some.last)) (sym c.in-Some.is) (code.returned returned.0 returned.1))))
