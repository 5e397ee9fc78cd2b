-- Lists in tables: what a table holds at 1 to its border (Lua 5.3 Reference Manual, section 6.6). Where this differs from the manual:
-- the border is the least one; `table.insert` takes any number of arguments, appends with at most two and drops those after the third;
-- `table.remove` refuses place 0; without a place, an empty list gives nil, and what stands at 0 stays; `table.concat` joins the whole list.
--     insert_at, remove_at     a table with a value put in, or taken out, at a place
--     elements entries         what it holds from 1 to its border
--     table_insert, table_remove, table_concat
use Rattle.std.specs.Prelude.{ℕ, zero, suc, ◌+◌, ◌-◌, nat_le, nat_lt, nat_eq, ◌&&◌, if◌then◌else◌, ℤ, pos, negsuc, List, [], ◌∷◌, map, length, slice_set, Result, Ok, Err}
use Rattle.std.specs.Fmt.{signed_decimal}
use Rattle.ntx_num.specs.Answer.{result_map}
use Rattle.ntx_values.specs.Table.{Entries, value_at, item_at, border_of, written}
use Rattle.ntx_values.specs.State as state
use Rattle.ntx_values.specs.State.{StoreState, bytes_of}
use Rattle.ntx_values.specs.declared.value.Value.{Value}
use Rattle.ntx_values.specs.declared.value.Value.TheVariants.{Nil, Int, Text}
use Rattle.ntx_values.specs.declared.value.TableId.{TableId}
use Rattle.ntx_values.specs.declared.why.LuaWhy.{LuaWhy}
use Rattle.ntx_values.specs.declared.why.LuaWhy.TheVariants.{BadArgument}
use Rattle.ntx_lualib.specs.Arguments.{◌>>=◌, argument, text_of, table_of, integer_of, each_of}
use Rattle.ntx_lualib.specs.Shown.{joined}

-- the same keys in the same order, with other values
abbrev pub refilled : (Value → Value) → Entries → Entries
refilled value_of entries = map (λ e. (e.0, value_of e.0)) entries

-- Place p takes v, and each place after it up to the one after the border takes what was at the place before.
abbrev pub shifted_up : Entries → ℕ → Value → Value → Value
shifted_up entries p v (Int (pos k)) =
    if nat_eq k p then v
    else if nat_lt p k && nat_le k (border_of entries + 1) then item_at entries (k - 1)
    else item_at entries k
shifted_up entries p v key = value_at entries key

-- Each place from p to the border takes what was at the place after it, so that the last takes nil.
abbrev pub shifted_down : Entries → ℕ → Value → Value
shifted_down entries p (Int (pos k)) = if nat_le p k && nat_le k (border_of entries) then item_at entries (k + 1) else item_at entries k
shifted_down entries p key = value_at entries key

-- A value is put in at a place from 1 to the one after the border. That last place is set first: where it is a new key, the table
-- may be full. The others have been there.
abbrev pub insert_at : Entries → ℕ → Value → Result Entries LuaWhy
insert_at entries p v =
    let last = border_of entries + 1 in
    if nat_eq p last then written entries (Int (pos last)) v
    else result_map (refilled (shifted_up entries p v)) (written entries (Int (pos last)) (item_at entries (last - 1)))

-- the table after the value at a place from 1 to the one after the border was taken out
abbrev pub remove_at : Entries → ℕ → Entries
remove_at entries p = refilled (shifted_down entries p) entries

-- a place from 1 to the one after the border
abbrev pub place_in : Entries → ℤ → Result ℕ LuaWhy
place_in entries (pos p) = if nat_le 1 p && nat_le p (border_of entries + 1) then Ok p else Err BadArgument
place_in entries (negsuc n) = Err BadArgument

-- what it holds at the next `turns` numbers after n
abbrev pub items_from : Entries → ℕ → ℕ → List Value
items_from entries zero n = []
items_from entries (suc turns) n = item_at entries (n + 1) ∷ items_from entries turns (n + 1)

abbrev pub elements : Entries → List Value
elements entries = items_from entries (border_of entries) 0

-- a text, or an integer by its digits
abbrev pub element_text : StoreState → Value → Result (List ℕ) LuaWhy
element_text store (Text t) = Ok (bytes_of store t)
element_text store (Int n) = Ok (signed_decimal n)
element_text store _ = Err BadArgument

-- a store with a table changed
abbrev pub with_table : StoreState → TableId → Entries → StoreState
with_table store t entries = record store { tables = slice_set store.tables t.number entries }

-- the value at a place, and the table after it was taken out
abbrev pub taken_out : Entries → ℕ → Value × Entries
taken_out entries p = (item_at entries p, remove_at entries p)

-- A value is appended, or with more than two arguments put in at a place.
abbrev pub inserted : Entries → List Value → Result Entries LuaWhy
inserted entries args =
    if nat_le (length args) 2 then written entries (Int (pos (border_of entries + 1))) (argument args 1)
    else (integer_of (argument args 1) >>= λ i. place_in entries i >>= λ p. insert_at entries p (argument args 2))

-- no value, and the store with the table changed
abbrev pub table_insert : List Value → StoreState → Result (List Value × StoreState) LuaWhy
table_insert args store =
    table_of (argument args 0) >>= λ t. result_map (λ entries. ([], with_table store t entries)) (inserted (state.table_of store t) args)

-- The place at which a value is taken out. If the argument is nil, it is the border, which is 0 if there is nothing at 1.
abbrev pub removal_place : Entries → Value → Result ℕ LuaWhy
removal_place entries Nil = Ok (border_of entries)
removal_place entries place = integer_of place >>= place_in entries

-- At place 0 the value is nil and nothing changes.
abbrev pub removed : Entries → Value → Result (Value × Entries) LuaWhy
removed entries place = removal_place entries place >>= λ p. Ok (if nat_eq p 0 then (Nil, entries) else taken_out entries p)

-- the value, and the store with the table changed
abbrev pub table_remove : List Value → StoreState → Result (List Value × StoreState) LuaWhy
table_remove args store =
    table_of (argument args 0) >>= λ t.
    result_map (λ found. (found.0 ∷ [], with_table store t found.1)) (removed (state.table_of store t) (argument args 1))

-- no text stands between the elements if the second argument is nil
abbrev pub separator : StoreState → Value → Result (List ℕ) LuaWhy
separator store Nil = Ok []
separator store v = text_of store v

abbrev pub table_concat : List Value → StoreState → Result (List ℕ) LuaWhy
table_concat args store = do
  t ← table_of (argument args 0)
  between ← separator store (argument args 1)
  parts ← each_of (element_text store) (elements (state.table_of store t))
  Ok (joined between parts)
