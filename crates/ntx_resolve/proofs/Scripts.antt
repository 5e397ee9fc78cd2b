-- What is answered of a script.
use Rattle.std.proofs.Common.{◌≡◌, ℕ, Option, None, Some, Result, Ok, Err, sym, ◌∙◌, ap, subst}
use Rattle.std.specs.Result.{IsErrAnd}
use Rattle.ntx_num.specs.declared.answer.Fail.{Fail}
use Rattle.ntx_num.specs.declared.answer.Fail.TheVariants.{NoMemory, Is}
use Rattle.ntx_syntax.specs.declared.fault.SyntaxFault.{SyntaxFault}
use Rattle.ntx_syntax.specs.declared.tree.Chunk.{Chunk}
use Rattle.ntx_resolve.specs.declared.code.Block.{Block}
use Rattle.ntx_resolve.specs.declared.code.Code.{Code}
use Rattle.ntx_resolve.specs.declared.state.State.{State}
use Rattle.ntx_resolve.specs.HasCode.{IsBlock, HasCode}
use Rattle.ntx_resolve.specs.Limit.{excess_of_block}
use Rattle.ntx_resolve.specs.Resolved.{Resolved}
use Rattle.ntx_resolve.specs.Scopes.{Scope, locals, outermost}
use Rattle.ntx_resolve.specs.inner.Resolves.{Leaves, left, refused_there, no_memory}
use Rattle.ntx_resolve.proofs.Resolving.{stays}

pub accepted : {chunk : Chunk} {c : Block} {new : State} (start : State) → start.scope ≡ outermost
    → Leaves (excess_of_block chunk.block (locals start.scope)) (λ s all c t. IsBlock all s chunk.block c t) start (Ok c) new
    → Resolved chunk (Ok (record { functions = new.functions; block = c }))
accepted {chunk = chunk} {c = c} {new = new} start first (left none grows holds) = (
  ap (λ s. excess_of_block chunk.block (locals s)) (sym first) ∙ none,
  record { after = new.scope; is = subst (λ s. IsBlock new.functions s chunk.block c new.scope) first (holds new.functions (stays new.functions)) },
)

refused_with : {chunk : Chunk} {e : Fail SyntaxFault} {new : State} (start : State) → start.scope ≡ outermost
    → Leaves (excess_of_block chunk.block (locals start.scope)) (λ s all c t. IsBlock all s chunk.block c t) start (Err e) new → Resolved chunk (Err e)
refused_with {chunk = chunk} start first (refused_there line why) = (ap (λ s. excess_of_block chunk.block (locals s)) (sym first) ∙ line, why)
refused_with start first no_memory = tt

pub refused_by : {chunk : Chunk} {e : Fail SyntaxFault} {new : State} (start : State) (r : Result Code (Fail SyntaxFault)) → start.scope ≡ outermost → IsErrAnd r (λ y. y ≡ e)
    → Leaves (excess_of_block chunk.block (locals start.scope)) (λ s all c t. IsBlock all s chunk.block c t) start (Err e) new → Resolved chunk r
refused_by start (Ok c) first is h = absurd is
refused_by {chunk = chunk} start (Err y) first is h = subst (λ z. Resolved chunk (Err z)) (sym is) (refused_with start first h)
