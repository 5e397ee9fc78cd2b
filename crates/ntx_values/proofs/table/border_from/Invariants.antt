use Rattle.std.proofs.Common.{◌≡◌, ◌+◌, ◌-◌, ◌<◌, ◌≤◌, ℕ, false, length}
use Rattle.ntx_values.specs.Value.{is_nil}
use Rattle.ntx_values.specs.Table.{item_at}
use Rattle.ntx_values.proofs.table.border_from.Given as goal

abbrev pub invariant-loop-border : goal.invariant-loop-border
invariant-loop-border l = (l.border ≤ length l.entries.entries) × ((k : ℕ) → k < l.border → is_nil (item_at l.entries.entries (k + 1)) ≡ false)

abbrev pub decreases-loop-border : goal.decreases-loop-border
decreases-loop-border l = l.keys - l.border
