-- What each call on a store does: from the arguments and the store to its answer and the new store, or to its refusal. What a
-- step does not name stays as it is.
use Rattle.std.specs.Prelude.{ℕ, ◌+◌, nat_le, if◌then◌else◌, List, [], ◌∷◌, ◌++◌, length, slice_set, Option, Result, Ok, Err}
use Rattle.std.specs.Option.{option_map}
use Rattle.ntx_num.specs.Answer.{result_map}
use Rattle.ntx_values.specs.Table.{Entries, written}
use Rattle.ntx_values.specs.Texts.{place_of, made}
use Rattle.ntx_values.specs.State.{StoreState, max_tables, table_of}
use Rattle.ntx_values.specs.declared.value.Value.{Value}
use Rattle.ntx_values.specs.declared.value.TextId.{TextId}
use Rattle.ntx_values.specs.declared.value.TableId.{TableId}
use Rattle.ntx_values.specs.declared.value.FuncId.{FuncId}
use Rattle.ntx_values.specs.declared.why.LuaWhy.{LuaWhy}
use Rattle.ntx_values.specs.declared.why.LuaWhy.TheVariants.{TablesFull}

-- no text, no table and no function
abbrev pub empty_store : StoreState
empty_store = record { texts = []; tables = []; functions = 0 }

-- the number of the text with these bytes, where it was made
abbrev pub found_text : List ℕ → StoreState → Option TextId
found_text bytes store = option_map (λ place. record { number = place }) (place_of bytes store.texts)

-- the text with these bytes
abbrev pub text_step : List ℕ → StoreState → Result (TextId × StoreState) LuaWhy
text_step bytes store = result_map (λ p. (record { number = p.0 }, record store { texts = p.1 })) (made bytes store.texts)

-- an empty table
abbrev pub new_table_step : StoreState → Result (TableId × StoreState) LuaWhy
new_table_step store =
    if nat_le max_tables (length store.tables) then Err TablesFull
    else Ok (record { number = length store.tables }, record store { tables = store.tables ++ [] ∷ [] })

-- the next number of a function
abbrev pub new_function_step : StoreState → FuncId × StoreState
new_function_step store = (record { number = store.functions }, record store { functions = store.functions + 1 })

-- a table set at a key
abbrev pub set_step : TableId → Value → Value → StoreState → Result (Unit {0} × StoreState) LuaWhy
set_step t key v store =
    result_map (λ entries. (tt, record store { tables = slice_set store.tables t.number entries })) (written (table_of store t) key v)
