use Rattle.std.proofs.Common.{◌≡◌, drop}
use Rattle.ntx_values.specs.Table.{first_held}
use Rattle.ntx_values.proofs.table.first_held.Given as goal

abbrev pub invariant-loop-place : goal.invariant-loop-place
invariant-loop-place l = first_held (drop l.from l.entries.entries) ≡ first_held (drop l.place l.entries.entries)
