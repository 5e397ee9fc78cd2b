-- What reads expressions and blocks, as the rules ask it of what they are given.
use Rattle.std.specs.Prelude.{ℕ, Result}
use Rattle.std.specs.declared.alloc.Global.{Global}
use denote.Ref.{MutBor}
use Rattle.ntx_num.specs.declared.answer.Fail.{Fail}
use Rattle.ntx_syntax.specs.declared.fault.SyntaxFault.{SyntaxFault}
use Rattle.ntx_syntax.specs.declared.tree.Exp.{Exp}
use Rattle.ntx_syntax.specs.declared.tree.Block.{Block}
use Rattle.ntx_parse.specs.declared.place.Place.{Place}
use Rattle.ntx_parse.specs.declared.precedence.Precedence.{Precedence}
use Rattle.ntx_parse.specs.inner.Input.{Input}
use Rattle.ntx_parse.specs.inner.Reading.{readers}
use Rattle.ntx_parse.specs.inner.Reads.{Reads}
use Rattle.ntx_parse.specs.inner.Room.{IsShallow, HasRoom, for_exp, for_block}

-- To this depth they can be called at each place that leaves them room, and they read what `readers` reads.
pub record Nests (depth : ℕ)
    (exp_pre : Global → MutBor Input → ℕ → Place → Precedence → Type 0)
    (exp_post : Global → MutBor Input → ℕ → Place → Precedence → Result Exp (Fail SyntaxFault) → MutBor Input → Type 0)
    (block_pre : Global → MutBor Input → ℕ → Place → Type 0)
    (block_post : Global → MutBor Input → ℕ → Place → Result Block (Fail SyntaxFault) → MutBor Input → Type 0) : Type 0 where
  pub exp_callable : (alloc : Global) (old : MutBor Input) (p : Place) (at : Precedence) → IsShallow p → HasRoom for_exp depth p → exp_pre alloc old depth p at
  pub exp_reads : (alloc : Global) (old new : MutBor Input) (p : Place) (at : Precedence) (r : Result Exp (Fail SyntaxFault)) → exp_post alloc old depth p at r new
      → Reads (λ n. (readers n).exp p at old.now.words) old.now r new.now
  pub block_callable : (alloc : Global) (old : MutBor Input) (p : Place) → IsShallow p → HasRoom for_block depth p → block_pre alloc old depth p
  pub block_reads : (alloc : Global) (old new : MutBor Input) (p : Place) (r : Result Block (Fail SyntaxFault)) → block_post alloc old depth p r new
      → Reads (λ n. (readers n).block p old.now.words) old.now r new.now
