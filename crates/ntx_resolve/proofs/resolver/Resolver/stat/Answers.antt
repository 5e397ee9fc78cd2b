use Rattle.std.proofs.Common.{◌≡◌, ◌+◌, ◌∙◌, refl, sym, ap, subst, [], ◌∷◌, length, map, None, Some, arith}
use Rattle.ntx_syntax.specs.declared.tree.StatKind.TheVariants as stat
use Rattle.ntx_syntax.specs.declared.tree.Block as tree-block
use Rattle.ntx_syntax.specs.declared.tree.FunctionBody as tree-body
use Rattle.ntx_syntax.specs.declared.tree.IfArm as tree-arm
use Rattle.ntx_resolve.specs.declared.code.StatKind.TheVariants as code-stat
use Rattle.ntx_resolve.specs.HasCode as code
use Rattle.ntx_resolve.specs.Limit as limit
use Rattle.ntx_resolve.specs.Scopes as scopes
use Rattle.ntx_resolve.specs.inner.Closed.{IsClosed, IsArm}
use Rattle.ntx_resolve.proofs.KindExcess as kinds
use Rattle.ntx_resolve.proofs.Allowing.{allowed, not_allowed}
use Rattle.ntx_resolve.proofs.Resolving.{said, ok, ok_in, stayed, err_by, last, last_here, last_err, last_err_by, no_memory_by, done}
use Rattle.ntx_resolve.proofs.Extending.{err_here, first_err_here, longer_after, longer_from, closed, enclosed, repeated, repeated_err, locals-entered, locals-declared, room}
use Rattle.ntx_resolve.proofs.Leaving.{said_there, no_memory_there, err_by_there, last_err_there, last_there, ok_here, err_here_after}
use Rattle.ntx_resolve.proofs.resolver.Resolver.stat.Goals as goal

pub returns-in_err-kind : goal.returns-in_err-kind
returns-in_err-kind g c = said_there (ap (λ d. d.excess (scopes.locals c.args.state.now.scope)) (kinds.statement c.args.stat.now)) (last_err_there _ c.from_residual.ensures.1 c.in_err-kind.ensures)

pub returns : goal.returns
returns g c = said_there (ap (λ d. d.excess (scopes.locals c.args.state.now.scope)) (kinds.statement c.args.stat.now)) (last_there c.in_ok-kind.ensures (λ s t all is. (refl, is.0 ∙ ap (λ d. scopes.locals s + d.declares) (sym (kinds.statement c.args.stat.now)), is.1)))
