-- Walks over tables (Lua 5.3 Reference Manual, section 6.1, `pairs`, `ipairs` and `next`). Where this differs from the manual: the order
-- is that of first insertion; a key that was removed can still be walked from, and one that was never held is BadArgument; `ipairs`
-- takes a table alone.
--     pairs, ipairs, ipairs_next, next
use Rattle.std.specs.Prelude.{◌+◌, ◌-◌, ◌^◌, nat_eq, if◌then◌else◌, ℤ, pos, negsuc, ◌+ℤ◌, List, [], ◌∷◌, Option, Some, None, Result, Ok, Err}
use Rattle.ntx_values.specs.Value.{is_nil}
use Rattle.ntx_values.specs.Table.{value_at, next_of}
use Rattle.ntx_values.specs.State as state
use Rattle.ntx_values.specs.State.{StoreState}
use Rattle.ntx_values.specs.declared.value.Value.{Value}
use Rattle.ntx_values.specs.declared.value.Value.TheVariants.{Nil, Int, Table, Prim}
use Rattle.ntx_values.specs.declared.primitive.Primitive.TheVariants.{Lib}
use Rattle.ntx_values.specs.declared.primitive.LibFn.TheVariants.{Next, IpairsNext}
use Rattle.ntx_values.specs.declared.why.BadKey.{BadKey}
use Rattle.ntx_values.specs.declared.why.LuaWhy.{LuaWhy}
use Rattle.ntx_values.specs.declared.why.LuaWhy.TheVariants.{BadArgument}
use Rattle.ntx_lualib.specs.Arguments.{◌>>=◌, argument, table_of, integer_of}

-- `next`, the table, and nil, from which the walk begins
abbrev pub pairs : List Value → Result (List Value) LuaWhy
pairs args = do
  t ← table_of (argument args 0)
  Ok (Prim (Lib Next) ∷ Table t ∷ Nil ∷ [])

-- the iterator, the table, and 0, after which the walk begins
abbrev pub ipairs : List Value → Result (List Value) LuaWhy
ipairs args = do
  t ← table_of (argument args 0)
  Ok (Prim (Lib IpairsNext) ∷ Table t ∷ Int (pos 0) ∷ [])

-- the integer after one of 64 bits, -2^63 after the greatest
abbrev pub after : ℤ → ℤ
after (pos n) = if nat_eq n (2 ^ 63 - 1) then negsuc n else pos (n + 1)
after (negsuc n) = negsuc n +ℤ pos 1

-- the next integer and what is there, or nil alone where nothing is
abbrev pub numbered : Value → Value → List Value
numbered key v = if is_nil v then Nil ∷ [] else key ∷ v ∷ []

abbrev pub ipairs_next : List Value → StoreState → Result (List Value) LuaWhy
ipairs_next args store = do
  t ← table_of (argument args 0)
  i ← integer_of (argument args 1)
  Ok (numbered (Int (after i)) (value_at (state.table_of store t) (Int (after i))))

-- the pair, or nil alone where none is left; a key that was never held is BadArgument
abbrev pub pair_values : Result (Option (Value × Value)) BadKey → Result (List Value) LuaWhy
pair_values (Ok (Some pair)) = Ok (pair.0 ∷ pair.1 ∷ [])
pair_values (Ok None) = Ok (Nil ∷ [])
pair_values (Err e) = Err BadArgument

abbrev pub next : List Value → StoreState → Result (List Value) LuaWhy
next args store = do
  t ← table_of (argument args 0)
  pair_values (next_of (state.table_of store t) (argument args 1))
