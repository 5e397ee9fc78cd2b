-- The entries so far, and the last of them.
use Rattle.std.proofs.Common.{◌≡◌, ◌+◌, map}
use Rattle.std.specs.List.{range_with_len}
use Rattle.ntx_legal.specs.Totals.{entry_of}
use Rattle.ntx_legal.proofs.totals.LineTotals.new.Given as goal

abbrev pub invariant-loop-i : goal.invariant-loop-i
invariant-loop-i l = (l.entries.items ≡ map (entry_of l.items) (range_with_len 0 (l.i + 1))) × (l.entry ≡ entry_of l.items l.i)
