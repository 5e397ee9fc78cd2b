-- What a resolver of blocks that is handed in has to keep to.
use Rattle.std.specs.Prelude.{◌<◌, ℕ, Result}
use Rattle.std.specs.declared.alloc.Global.{Global}
use denote.Ref.{MutBor, Bor}
use Rattle.ntx_num.specs.declared.answer.Fail.{Fail}
use Rattle.ntx_syntax.specs.declared.fault.SyntaxFault.{SyntaxFault}
use Rattle.ntx_syntax.specs.declared.tree.Block as tree-block
use Rattle.ntx_resolve.specs.declared.code.Block.{Block}
use Rattle.ntx_resolve.specs.declared.state.State.{State}
use Rattle.ntx_resolve.specs.Scopes.{locals}
use Rattle.ntx_resolve.specs.HasCode.{IsBlock}
use Rattle.ntx_resolve.specs.Limit.{excess_of_block}
use Rattle.ntx_resolve.specs.inner.Resolves.{Leaves}

-- It can be called with each block that is smaller than this, and gives the code of the block.
pub record Blocks (bound : ℕ)
    (pre : Global → MutBor State → Bor tree-block.Block → Type 0)
    (post : Global → MutBor State → Bor tree-block.Block → Result Block (Fail SyntaxFault) → MutBor State → Type 0) : Type 0 where
  pub callable : (alloc : Global) (old : MutBor State) (block : Bor tree-block.Block) → tree-block.size-Block block.now < bound → pre alloc old block
  pub resolves : (alloc : Global) (old new : MutBor State) (block : Bor tree-block.Block) (r : Result Block (Fail SyntaxFault)) → post alloc old block r new
      → Leaves (excess_of_block block.now (locals old.now.scope)) (λ s all c t. IsBlock all s block.now c t) old.now r new.now
