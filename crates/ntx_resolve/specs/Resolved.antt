-- What the resolver answers: the code of a script in which no name is one too many, or the fault of the first that is.
use Rattle.std.specs.Prelude.{◌≡◌, ℕ, None, Some, Result, Ok, Err}
use Rattle.ntx_num.specs.declared.answer.Fail.{Fail}
use Rattle.ntx_num.specs.declared.answer.Fail.TheVariants.{NoMemory, Is}
use Rattle.ntx_syntax.specs.declared.fault.SyntaxFault.{SyntaxFault}
use Rattle.ntx_syntax.specs.declared.fault.SyntaxWhy.TheVariants.{Locals}
use Rattle.ntx_syntax.specs.declared.tree.Chunk.{Chunk}
use Rattle.ntx_resolve.specs.declared.code.Code.{Code}
use Rattle.ntx_resolve.specs.HasCode.{HasCode}
use Rattle.ntx_resolve.specs.Limit.{excess_of_chunk}

-- Unless memory runs out, a script is refused exactly if it has a name too many.
abbrev pub Resolved : Chunk → Result Code (Fail SyntaxFault) → Type 0
Resolved chunk (Ok code) = (excess_of_chunk chunk ≡ None) × HasCode chunk code
Resolved chunk (Err (Is fault)) = (excess_of_chunk chunk ≡ Some fault.line) × (fault.why ≡ Locals)
Resolved chunk (Err NoMemory) = Unit {0}
