-- The items so far are discarded.
use Rattle.std.proofs.Common.{◌≡◌, ◌+◌, drop}
use Rattle.std.specs.List.{prefix_len}
use Rattle.ntx_legal.specs.Kept.{is_discardable}
use Rattle.ntx_lines.proofs.part.discarded.Given as goal

abbrev pub invariant-loop-i : goal.invariant-loop-i
invariant-loop-i l = l.i + prefix_len is_discardable (drop l.i l.items) ≡ prefix_len is_discardable l.items
