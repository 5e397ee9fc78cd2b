-- One piece of a format: a byte, or `%` and a byte.
use Rattle.std.specs.Prelude.{◌≡◌, ℕ, ◌<◌, ◌≤◌, List, ◌++◌, drop, length, Option, Result, Ok, Err}
use Rattle.ntx_num.specs.Answer.{result_map}
use Rattle.ntx_num.specs.declared.answer.Fail.{Fail}
use Rattle.ntx_num.specs.declared.answer.Fail.TheVariants.{NoMemory, Is}
use Rattle.ntx_values.specs.Texts.{max_text}
use Rattle.ntx_values.specs.State.{StoreState}
use Rattle.ntx_values.specs.declared.value.Value.{Value}
use Rattle.ntx_values.specs.declared.why.LuaWhy.{LuaWhy}
use Rattle.ntx_lualib.specs.Formats.{formatted}
use Rattle.ntx_lualib.specs.inner.Lines.{added}

-- some bytes were added, and the format goes on after what was taken of it and of the values
pub record IsPiece (old new : Option (List ℕ)) (store : StoreState) (format : List ℕ) (values : List Value) (bytes taken : ℕ) : Type 0 where
  pub piece : List ℕ
  pub line : new ≡ added max_text old piece
  pub rest : formatted store format values ≡ result_map (λ after. piece ++ after) (formatted store (drop bytes format) (drop taken values))
  pub some : 0 < bytes
  pub within : bytes ≤ length format

abbrev pub Takes : Result (ℕ × ℕ) (Fail LuaWhy) → Option (List ℕ) → Option (List ℕ) → StoreState → List ℕ → List Value → Type 0
Takes (Ok taken) old new store format values = IsPiece old new store format values taken.0 taken.1
Takes (Err (Is why)) old new store format values = formatted store format values ≡ Err why
Takes (Err NoMemory) old new store format values = Unit {0}
