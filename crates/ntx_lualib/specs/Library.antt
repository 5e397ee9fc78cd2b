-- Each function of the library, as a step of a store and the printed bytes.
--     called f args state      the values, the store and the printed bytes after the call, or the refusal
--     Calls                    what an answer says of the states before and after
use Rattle.std.specs.Prelude.{◌≡◌, ℕ, List, [], ◌∷◌, Result, Ok, Err}
use Rattle.ntx_num.specs.Answer.{result_map}
use Rattle.ntx_num.specs.declared.answer.Fail.{Fail}
use Rattle.ntx_num.specs.declared.answer.Fail.TheVariants.{NoMemory, Is}
use Rattle.ntx_values.specs.State.{StoreState, Grows}
use Rattle.ntx_values.specs.Steps.{text_step}
use Rattle.ntx_values.specs.declared.value.Value.{Value}
use Rattle.ntx_values.specs.declared.value.Value.TheVariants.{Text}
use Rattle.ntx_values.specs.declared.primitive.LibFn.{LibFn}
use Rattle.ntx_values.specs.declared.primitive.LibFn.TheVariants.{Print, ToString, TypeOf, Pairs, Ipairs, IpairsNext, Next, StringLen, StringSub, StringByte, StringChar, StringRep, StringFormat, TableInsert, TableRemove, TableConcat, MathAbs, MathMax, MathMin}
use Rattle.ntx_values.specs.declared.why.LuaWhy.{LuaWhy}
use Rattle.ntx_lualib.specs.Arguments.{◌>>=◌, argument}
use Rattle.ntx_lualib.specs.Shown.{shown, type_name}
use Rattle.ntx_lualib.specs.Strings.{string_len, string_sub, string_byte, string_char, string_rep}
use Rattle.ntx_lualib.specs.Formats.{string_format}
use Rattle.ntx_lualib.specs.Lists.{table_insert, table_remove, table_concat}
use Rattle.ntx_lualib.specs.Numbers.{math_abs, math_max, math_min}
use Rattle.ntx_lualib.specs.Walks.{pairs, ipairs, ipairs_next, next}
use Rattle.ntx_lualib.specs.Output.{PrintedState, print_step, printed_line}

-- what a call can change: the store, and what was printed
abbrev pub LibState : Type 0
LibState = StoreState × PrintedState

-- a step of the store alone
abbrev pub on_store : (StoreState → Result (List Value × StoreState) LuaWhy) → LibState → Result (List Value × LibState) LuaWhy
on_store step state = result_map (λ after. (after.0, (after.1, state.1))) (step state.0)

-- values, and nothing changes
abbrev pub gives : (StoreState → Result (List Value) LuaWhy) → StoreState → Result (List Value × StoreState) LuaWhy
gives answer store = result_map (λ values. (values, store)) (answer store)

-- the text with these bytes, which is made if it is new
abbrev pub gives_text : (StoreState → Result (List ℕ) LuaWhy) → StoreState → Result (List Value × StoreState) LuaWhy
gives_text answer store = do
  bytes ← answer store
  made ← text_step bytes store
  Ok (Text made.0 ∷ [], made.1)

-- no value, and a line is printed
abbrev pub prints : List Value → LibState → Result (List Value × LibState) LuaWhy
prints args state = result_map (λ out. ([], (state.0, out))) (print_step (printed_line state.0 args) state.1)

abbrev pub called : LibFn → List Value → LibState → Result (List Value × LibState) LuaWhy
called Print args = prints args
called ToString args = on_store (gives_text (λ store. Ok (shown store (argument args 0))))
called TypeOf args = on_store (gives_text (λ _. Ok (type_name (argument args 0))))
called Pairs args = on_store (gives (λ _. pairs args))
called Ipairs args = on_store (gives (λ _. ipairs args))
called IpairsNext args = on_store (gives (ipairs_next args))
called Next args = on_store (gives (next args))
called StringLen args = on_store (gives (string_len args))
called StringSub args = on_store (gives_text (string_sub args))
called StringByte args = on_store (gives (string_byte args))
called StringChar args = on_store (gives_text (λ _. string_char args))
called StringRep args = on_store (gives_text (string_rep args))
called StringFormat args = on_store (gives_text (string_format args))
called TableInsert args = on_store (table_insert args)
called TableRemove args = on_store (table_remove args)
called TableConcat args = on_store (gives_text (table_concat args))
called MathAbs args = on_store (gives (λ _. math_abs args))
called MathMax args = on_store (gives (λ _. math_max args))
called MathMin args = on_store (gives (λ _. math_min args))

-- The call gives the values and the state that are stated, or makes the refusal and changes nothing. If memory ran out, nothing more
-- was printed; old texts, tables and functions stay valid and texts keep their bytes, but what tables hold may have changed.
abbrev pub Calls : Result (List Value) (Fail LuaWhy) → LibState → LibState → Result (List Value × LibState) LuaWhy → Type 0
Calls (Ok values) old new step = step ≡ Ok (values, new)
Calls (Err (Is why)) old new step = (step ≡ Err why) × (new ≡ old)
Calls (Err NoMemory) old new step = Grows old.0 new.0 × (new.1 ≡ old.1)
