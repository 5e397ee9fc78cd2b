use Rattle.std.proofs.Common.{◌≡◌, ◌+◌, ◌∙◌, refl, sym, ap, subst, [], ◌∷◌, length, map, None, Some, arith}
use Rattle.ntx_syntax.specs.declared.tree.StatKind.TheVariants as stat
use Rattle.ntx_syntax.specs.declared.tree.Block as tree-block
use Rattle.ntx_syntax.specs.declared.tree.FunctionBody as tree-body
use Rattle.ntx_syntax.specs.declared.tree.IfArm as tree-arm
use Rattle.ntx_resolve.specs.declared.code.StatKind.TheVariants as code-stat
use Rattle.ntx_resolve.specs.HasCode as code
use Rattle.ntx_resolve.specs.Limit as limit
use Rattle.ntx_resolve.specs.Scopes as scopes
use Rattle.ntx_resolve.specs.inner.Closed.{IsClosed, IsArm}
use Rattle.ntx_resolve.proofs.KindExcess as kinds
use Rattle.ntx_resolve.proofs.Allowing.{allowed, not_allowed}
use Rattle.ntx_resolve.proofs.Resolving.{said, ok, ok_in, stayed, err_by, last, last_here, last_err, last_err_by, no_memory_by, done}
use Rattle.ntx_resolve.proofs.Extending.{err_here, first_err_here, longer_after, longer_from, closed, enclosed, repeated, repeated_err, locals-entered, locals-declared, room}
use Rattle.ntx_resolve.proofs.resolver.Resolver.repeat_loop.Goals as goal

pub returns-in_err-code : goal.returns-in_err-code
returns-in_err-code g c = first_err_here _ _ c.from_residual.ensures.1 c.in_err-code.ensures

pub returns-in_err-until : goal.returns-in_err-until
returns-in_err-until g c = repeated_err _ c.from_residual-in_err-until.ensures.1 c.in_ok-code.ensures c.in_err-until.ensures

pub leave-requires-clause-declared : goal.leave-requires-clause-declared
leave-requires-clause-declared g c = let l = longer_after c.in_ok-code.ensures in let s = ap (λ t. length t.names) (stayed c.in_ok-until.ensures) in omega (arith, l, s)

pub returns-in_err-new : goal.returns-in_err-new
returns-in_err-new g c = no_memory_by _ c.from_residual-in_err-new.ensures.1

pub returns : goal.returns
returns g c = repeated _ c.in_ok-code.ensures c.in_ok-until.ensures refl _ _ c.mark-mark.ensures.names c.mark-mark.ensures.from c.leave.ensures (λ s t all block condition. subst (λ z. code.IsKind all s (stat.Repeat c.args.block.now c.args.condition.now) (code-stat.Repeat z c.in_ok-until.until) s) (sym c.in_ok-new.ensures) (code.repeat block condition))
