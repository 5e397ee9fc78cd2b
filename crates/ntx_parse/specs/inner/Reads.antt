-- What a reading function of the parser ensures.
--     Reads read old result new    what is read of the words in `old` is the result, with the words in `new` left, unless memory runs out
use Rattle.std.specs.Prelude.{◌≡◌, ◌≤◌, ℕ, length, List, Some, Result, Ok, Err}
use Rattle.ntx_num.specs.declared.answer.Fail.{Fail}
use Rattle.ntx_num.specs.declared.answer.Fail.TheVariants.{NoMemory, Is}
use Rattle.ntx_syntax.specs.declared.fault.SyntaxFault.{SyntaxFault}
use Rattle.ntx_parse.specs.Words.{Word}
use Rattle.ntx_parse.specs.inner.Reading.{Stop, Answer}
use Rattle.ntx_parse.specs.inner.Input.{Input, line_of}

-- With calls that lie deep enough, this is what is read.
pub record IsAtLast {A : Type 0} (read : ℕ → Answer A) (answer : Result (A × List Word) Stop) : Type 0 where
  pub from : ℕ
  pub gives : (n : ℕ) → from ≤ n → read n ≡ Some answer

-- The fault of a stop, in a script with this last line.
abbrev pub fault_at : ℕ → Stop → SyntaxFault
fault_at last stop = record { line = line_of last stop.words; why = stop.why }

pub data Reads {A : Type 0} (read : ℕ → Answer A) (old : Input) : Result A (Fail SyntaxFault) → Input → Type 0 where
  went : {a : A} {new : Input} → IsAtLast read (Ok (a, new.words)) → new.last_line ≡ old.last_line → length new.words ≤ length old.words
      → Reads read old (Ok a) new
  stops : {fault : SyntaxFault} {new : Input} (stop : Stop) → IsAtLast read (Err stop) → fault ≡ fault_at old.last_line stop
      → Reads read old (Err (Is fault)) new
  out_of_memory : {new : Input} → Reads read old (Err NoMemory) new
