-- The items so far are small.
use Rattle.std.proofs.Common.{take}
use Rattle.std.specs.List.{All}
use Rattle.ntx_legal.proofs.SmallItems.{IsSmall}
use Rattle.ntx_breaks.proofs.tests.paragraph.is_in_range.Given as goal

abbrev pub invariant-loop-item : goal.invariant-loop-item
invariant-loop-item l = All IsSmall (take l.item-index l.items)
