-- What a writer does with several operations, one after another: it writes each that ends within the limit on the file's length, and stops at the
-- first that does not.
use Rattle.std.specs.Prelude.{◌≡◌, List, ◌++◌, Result, Ok, Err}
use Rattle.std.specs.List.{fold}
use Rattle.ntx_num.specs.declared.answer.Fail.{Fail}
use Rattle.ntx_num.specs.declared.answer.Fail.TheVariants.{NoMemory, Is}
use Rattle.ntx_dvi.specs.declared.full.DviFull.{DviFull}
use Rattle.ntx_dvi.specs.Operation.{Operation}
use Rattle.ntx_dvi.specs.Writer.{Writer, step}

-- the writer after a step, or the one that the step was refused to
abbrev pub after_step : Writer → Result (Unit {0} × Writer) DviFull → Result Writer Writer
after_step old (Ok stepped) = Ok stepped.1
after_step old (Err full) = Err old

-- one operation more, unless one before it found no room
abbrev pub then_write : Result Writer Writer → Operation → Result Writer Writer
then_write (Ok w) operation = after_step w (step operation w)
then_write (Err w) operation = Err w

-- The writer that has written them all, or, as an `Err`, the one that has written those before the first that finds no room.
unfoldable pub written : Writer → List Operation → Result Writer Writer
written w operations = fold then_write (Ok w) operations

-- A prefix of the operations is written.
pub record WritesPrefix (old new : Writer) (operations : List Operation) : Type 0 where
  pub prefix : List Operation
  pub rest : List Operation
  pub parts : operations ≡ prefix ++ rest
  pub writes : written old prefix ≡ Ok new

abbrev pub WritesAs : Result (Unit {0}) (Fail DviFull) → Writer → Writer → List Operation → Type 0
WritesAs (Ok _) old new operations = written old operations ≡ Ok new
WritesAs (Err (Is _)) old new operations = written old operations ≡ Err new
WritesAs (Err NoMemory) old new operations = WritesPrefix old new operations

-- The operations are written, or those for which there is room. If memory ran out a prefix of them is written.
pub record Writes (result : Result (Unit {0}) (Fail DviFull)) (old new : Writer) (operations : List Operation) : Type 0 where
  pub done : WritesAs result old new operations
