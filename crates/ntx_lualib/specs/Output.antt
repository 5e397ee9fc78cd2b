-- Printed bytes (Lua 5.3 Reference Manual, section 6.1, `print`). Where this differs from the manual: `print` never calls a global
-- `tostring`; it shows each value by `shown`.
--     PrintedState         the bytes that wait to be taken, and how many were printed in all
--     print_step bytes out     what is there after more were printed, or the refusal
use Rattle.std.specs.Prelude.{ℕ, ◌+◌, ◌≤◌, ◌^◌, nat_le, if◌then◌else◌, List, [], ◌∷◌, ◌++◌, map, length, Result, Ok, Err}
use Rattle.ntx_values.specs.State.{StoreState}
use Rattle.ntx_values.specs.declared.value.Value.{Value}
use Rattle.ntx_values.specs.declared.why.LuaWhy.{LuaWhy}
use Rattle.ntx_values.specs.declared.why.LuaWhy.TheVariants.{PrintFull}
use Rattle.ntx_lualib.specs.Shown.{shown, joined}

-- the bytes that wait to be taken, and how many were printed in all
pub record PrintedState : Type 0 where
  pub waiting : List ℕ
  pub total : ℕ

-- as many bytes may be printed in all
abbrev pub max_printed : ℕ
max_printed = 2 ^ 24

-- nothing was printed
abbrev pub nothing_printed : PrintedState
nothing_printed = record { waiting = []; total = 0 }

abbrev pub print_step : List ℕ → PrintedState → Result PrintedState LuaWhy
print_step bytes out =
    if nat_le (out.total + length bytes) max_printed then Ok (record { waiting = out.waiting ++ bytes; total = out.total + length bytes })
    else Err PrintFull

-- the values as texts with tabs between them, and a line feed
abbrev pub printed_line : StoreState → List Value → List ℕ
printed_line store vs = joined (9 ∷ []) (map (shown store) vs) ++ 10 ∷ []

-- not more bytes wait than were printed, and those are within the limit
pub record IsWithin (out : PrintedState) : Type 0 where
  pub waiting : length out.waiting ≤ out.total
  pub total : out.total ≤ max_printed
