-- What an answer of `print` says of the printed bytes.
use Rattle.std.specs.Prelude.{◌≡◌, List, [], Result, Ok, Err}
use Rattle.ntx_num.specs.declared.answer.Fail.{Fail}
use Rattle.ntx_num.specs.declared.answer.Fail.TheVariants.{NoMemory, Is}
use Rattle.ntx_values.specs.declared.value.Value.{Value}
use Rattle.ntx_values.specs.declared.why.LuaWhy.{LuaWhy}
use Rattle.ntx_lualib.specs.Output.{PrintedState}

abbrev pub Prints : Result (List Value) (Fail LuaWhy) → PrintedState → PrintedState → Result PrintedState LuaWhy → Type 0
Prints (Ok values) old new step = (values ≡ []) × (step ≡ Ok new)
Prints (Err (Is why)) old new step = (step ≡ Err why) × (new ≡ old)
Prints (Err NoMemory) old new step = new ≡ old
