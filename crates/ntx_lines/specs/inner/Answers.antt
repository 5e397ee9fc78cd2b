-- What private calls say of answers.
use Rattle.std.specs.Prelude.{Result, Ok, Err}
use Rattle.ntx_num.specs.declared.answer.Fail.{Fail}
use Rattle.ntx_num.specs.declared.answer.Fail.TheVariants.{Is}

-- an answer of a call that takes no memory, as one of a call that takes some
abbrev pub with_memory : {A E : Type 0} → Result A E → Result A (Fail E)
with_memory (Ok a) = Ok a
with_memory (Err e) = Err (Is e)
