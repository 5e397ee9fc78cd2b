-- What an answer says of a store, as `Calls` does of a store and the printed bytes, and what it says of bytes.
use Rattle.std.specs.Prelude.{◌≡◌, ◌⊎◌, ℕ, List, Result, Ok, Err}
use Rattle.ntx_num.specs.Answer.{Answers}
use Rattle.ntx_num.specs.declared.answer.Fail.{Fail}
use Rattle.ntx_num.specs.declared.answer.Fail.TheVariants.{NoMemory, Is}
use Rattle.ntx_values.specs.State.{StoreState}
use Rattle.ntx_values.specs.declared.value.Value.{Value}
use Rattle.ntx_values.specs.declared.why.LuaWhy.{LuaWhy}
use Rattle.ntx_lualib.specs.inner.Lines.{limited}

abbrev pub StoreCalls : Result (List Value) (Fail LuaWhy) → StoreState → StoreState → Result (List Value × StoreState) LuaWhy → Type 0
StoreCalls (Ok values) old new step = step ≡ Ok (values, new)
StoreCalls (Err (Is why)) old new step = (step ≡ Err why) × (new ≡ old)
StoreCalls (Err NoMemory) old new step = Unit {0}

-- the bytes are given, or refused because they are too many for a text
abbrev pub GivesBytes : Result (List ℕ) (Fail LuaWhy) → Result (List ℕ) LuaWhy → Type 0
GivesBytes bytes answer = Answers bytes answer ⊎ Answers bytes (limited answer)
