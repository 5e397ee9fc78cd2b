-- Values that are moved along the numbers of a table.
use Rattle.std.specs.Prelude.{◌≡◌, ℕ, ◌+◌, ◌-◌, nat_le, nat_lt, ◌&&◌, if◌then◌else◌, pos, Result, Ok, Err}
use Rattle.ntx_num.specs.Answer.{result_map}
use Rattle.ntx_num.specs.declared.answer.Fail.{Fail}
use Rattle.ntx_num.specs.declared.answer.Fail.TheVariants.{NoMemory, Is}
use Rattle.ntx_values.specs.Table.{Entries, value_at, item_at}
use Rattle.ntx_values.specs.State.{StoreState, table_of}
use Rattle.ntx_values.specs.declared.value.Value.{Value}
use Rattle.ntx_values.specs.declared.value.Value.TheVariants.{Int}
use Rattle.ntx_values.specs.declared.value.TableId.{TableId}
use Rattle.ntx_values.specs.declared.why.LuaWhy.{LuaWhy}
use Rattle.ntx_lualib.specs.Lists.{refilled, with_table}

-- each place after p, up to m, takes what was at the place before
abbrev pub raised : Entries → ℕ → ℕ → Value → Value
raised entries p m (Int (pos k)) = if nat_lt p k && nat_le k m then item_at entries (k - 1) else item_at entries k
raised entries p m key = value_at entries key

-- each place from p on, below m, takes what was at the place after
abbrev pub lowered : Entries → ℕ → ℕ → Value → Value
lowered entries p m (Int (pos k)) = if nat_le p k && nat_lt k m then item_at entries (k + 1) else item_at entries k
lowered entries p m key = value_at entries key

-- the values of a table were moved; nothing refuses that but lack of memory
abbrev pub Moves : Result (Unit {0}) (Fail LuaWhy) → StoreState → StoreState → TableId → (Value → Value) → Type 0
Moves (Ok u) old new t value_of = new ≡ with_table old t (refilled value_of (table_of old t))
Moves (Err (Is why)) old new t value_of = ⊥
Moves (Err NoMemory) old new t value_of = Unit {0}

-- a table was changed to this one, or the change was refused
abbrev pub Changes : Result (Unit {0}) (Fail LuaWhy) → StoreState → StoreState → TableId → Result Entries LuaWhy → Type 0
Changes (Ok u) old new t after = result_map (with_table old t) after ≡ Ok new
Changes (Err (Is why)) old new t after = (after ≡ Err why) × (new ≡ old)
Changes (Err NoMemory) old new t after = Unit {0}
