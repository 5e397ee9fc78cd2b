-- The totals of the items so far.
use Rattle.std.proofs.Common.{◌≡◌, take}
use Rattle.ntx_pack.specs.Totals.{totals_of}
use Rattle.ntx_pack.proofs.totals.totals_of.Given as goal

abbrev pub invariant-loop-item : goal.invariant-loop-item
invariant-loop-item l = l.totals ≡ totals_of l.change (take l.item-index l.items)
