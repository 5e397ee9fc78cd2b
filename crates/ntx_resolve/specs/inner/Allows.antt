-- What the test of the limit answers: Ok if no name is one too many, and otherwise the fault of the first that is.
--     Allows excess result
use Rattle.std.specs.Prelude.{◌≡◌, ℕ, Option, None, Some, Result, Ok, Err}
use Rattle.ntx_num.specs.declared.answer.Fail.{Fail}
use Rattle.ntx_num.specs.declared.answer.Fail.TheVariants.{NoMemory, Is}
use Rattle.ntx_syntax.specs.declared.fault.SyntaxFault.{SyntaxFault}
use Rattle.ntx_syntax.specs.declared.fault.SyntaxWhy.TheVariants.{Locals}

abbrev pub Allows : Option ℕ → Result (Unit {0}) (Fail SyntaxFault) → Type 0
Allows excess (Ok u) = excess ≡ None
Allows excess (Err (Is fault)) = (excess ≡ Some fault.line) × (fault.why ≡ Locals)
Allows excess (Err NoMemory) = ⊥
