use Rattle.std.proofs.Common.{◌≡◌, ◌+◌, ◌∙◌, refl, sym, ap, subst, [], ◌∷◌, length, map, None, Some, arith}
use Rattle.ntx_syntax.specs.declared.tree.StatKind.TheVariants as stat
use Rattle.ntx_syntax.specs.declared.tree.Block as tree-block
use Rattle.ntx_syntax.specs.declared.tree.FunctionBody as tree-body
use Rattle.ntx_syntax.specs.declared.tree.IfArm as tree-arm
use Rattle.ntx_resolve.specs.declared.code.StatKind.TheVariants as code-stat
use Rattle.ntx_resolve.specs.HasCode as code
use Rattle.ntx_resolve.specs.Limit as limit
use Rattle.ntx_resolve.specs.Scopes as scopes
use Rattle.ntx_resolve.specs.inner.Closed.{IsClosed, IsArm}
use Rattle.ntx_resolve.proofs.KindExcess as kinds
use Rattle.ntx_resolve.proofs.Allowing.{allowed, not_allowed}
use Rattle.ntx_resolve.proofs.Resolving.{said, ok, ok_in, stayed, err_by, last, last_here, last_err, last_err_by, no_memory_by, done}
use Rattle.ntx_resolve.proofs.Extending.{err_here, first_err_here, longer_after, longer_from, closed, enclosed, repeated, repeated_err, locals-entered, locals-declared, room}
use Rattle.ntx_resolve.proofs.resolver.Resolver.if_else.Goals as goal

pub returns-in_err-arms : goal.returns-in_err-arms
returns-in_err-arms g c = err_by _ _ c.from_residual.ensures.1 c.in_err-arms.ensures

pub returns-in_err-other : goal.returns-in_err-other
returns-in_err-other g c = ok_in (λ s. limit.excess_of_block c.args.other.now (scopes.locals s)) c.in_ok-arms.ensures (last_err_by _ c.from_residual-in_err-other.ensures.1 c.in_err-other.ensures)

pub returns : goal.returns
returns g c = ok_in (λ s. limit.excess_of_block c.args.other.now (scopes.locals s)) c.in_ok-arms.ensures (last c.in_ok-other.ensures (λ s all other arms. code.if_stat arms (code.else_block other.1)))
