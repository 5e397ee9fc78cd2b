-- One step of a walk over the pairs of a table.
use Rattle.std.specs.Prelude.{ℕ, Option, Some, None, if◌then◌else◌, slice_get}
use Rattle.std.specs.Option.{option_and_then}
use Rattle.ntx_values.specs.Value.{is_nil}
use Rattle.ntx_values.specs.Table.{Entries}
use Rattle.ntx_values.specs.declared.value.Value.{Value}

-- the pair at a place, where it holds a value other than nil
abbrev pub held_at : Entries → ℕ → Option (Value × Value)
held_at entries place = option_and_then (λ e. if is_nil e.1 then None else Some e) (slice_get entries place)
