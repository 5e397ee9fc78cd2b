-- Where the border of a table may be after a set.
use Rattle.std.specs.Prelude.{ℕ, suc, min, pos, if◌then◌else◌}
use Rattle.ntx_values.specs.Value.{is_nil}
use Rattle.ntx_values.specs.declared.value.Value.{Value}
use Rattle.ntx_values.specs.declared.value.Value.TheVariants.{Int}

-- from here on it is looked for: below it every number is still held
abbrev pub border_start : ℕ → Value → Value → ℕ
border_start border (Int (pos (suc k))) v = if is_nil v then min border k else border
border_start border _ v = border
