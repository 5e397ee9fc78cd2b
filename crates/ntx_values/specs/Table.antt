-- Tables of scripts as values: pairs of a key and a value in the order in which the keys were first set, no key twice. A key
-- that was set to nil keeps its place (Lua 5.3 Reference Manual, sections 2.1 and 3.4.7, and `next` in section 6.1).
--     value_at entries key          what a table holds at a key, nil where nothing
--     written entries key v         the table after a set, or its refusal
--     border_of entries             the least n with nothing at n + 1
--     next_of entries key           the first pair after a key that holds something
use Rattle.std.specs.Prelude.{◌≡◌, ◌≢◌, ℕ, zero, suc, ◌+◌, ◌<◌, ◌≤◌, ◌^◌, nat_le, pos, Bool, if◌then◌else◌, List, [], ◌∷◌, length, Option, None, Some, is_some, unwrap_or, Result, Ok, Err}
use Rattle.std.specs.Option.{option_map, ok_or}
use Rattle.std.specs.Map.{lookup}
use Rattle.indexmap.specs.IndexMap.{insert_entry}
use Rattle.ntx_values.specs.Value.{is_same, is_nil}
use Rattle.ntx_values.specs.declared.value.Value.{Value}
use Rattle.ntx_values.specs.declared.value.Value.TheVariants.{Nil, Int}
use Rattle.ntx_values.specs.declared.why.LuaWhy.{LuaWhy}
use Rattle.ntx_values.specs.declared.why.LuaWhy.TheVariants.{NilKey, TablesFull}
use Rattle.ntx_values.specs.declared.why.BadKey.{BadKey}

abbrev pub Entries : Type 0
Entries = List (Value × Value)

-- as many keys may one table hold, those that hold nil counted
abbrev pub max_keys : ℕ
max_keys = 2 ^ 16

abbrev pub value_at : Entries → Value → Value
value_at entries key = unwrap_or (lookup (is_same key) entries) Nil

-- whether the key was ever set to a value other than nil
abbrev pub has_key : Entries → Value → Bool
has_key entries key = is_some (lookup (is_same key) entries)

-- A key that is there keeps its place and takes the value, and a new one goes last. Nil at a key that was never there changes
-- nothing.
abbrev pub written : Entries → Value → Value → Result Entries LuaWhy
written entries key v =
    if is_nil key then Err NilKey
    else if has_key entries key then Ok (insert_entry is_same entries key v)
    else if is_nil v then Ok entries
    else if nat_le max_keys (length entries) then Err TablesFull
    else Ok (insert_entry is_same entries key v)

-- what the table holds at a number
abbrev pub item_at : Entries → ℕ → Value
item_at entries n = value_at entries (Int (pos n))

-- n is the least number with nothing at n + 1
pub record IsBorder (entries : Entries) (n : ℕ) : Type 0 where
  pub held : (k : ℕ) → k < n → item_at entries (k + 1) ≢ Nil
  pub ended : item_at entries (n + 1) ≡ Nil

-- the least such number from n on, or n + turns where there is none below it
abbrev pub border_from : Entries → ℕ → ℕ → ℕ
border_from entries zero n = n
border_from entries (suc turns) n = if is_nil (item_at entries (n + 1)) then n else border_from entries turns (n + 1)

-- no border is greater than the number of keys
abbrev pub border_of : Entries → ℕ
border_of entries = border_from entries (length entries) 0

-- the first pair that holds a value other than nil
abbrev pub first_held : Entries → Option (Value × Value)
first_held [] = None
first_held (e ∷ entries) = if is_nil e.1 then first_held entries else Some e

-- the pairs after the one with this key
abbrev pub entries_after : Entries → Value → Option Entries
entries_after [] key = None
entries_after (e ∷ entries) key = if is_same key e.0 then Some entries else entries_after entries key

-- from nil the walk begins
abbrev pub next_of : Entries → Value → Result (Option (Value × Value)) BadKey
next_of entries key = if is_nil key then Ok (first_held entries) else ok_or (option_map first_held (entries_after entries key)) (record {})
