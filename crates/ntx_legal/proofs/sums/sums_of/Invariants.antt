-- The sums of the items so far.
use Rattle.std.proofs.Common.{◌≡◌, take}
use Rattle.ntx_legal.specs.LineSums.{sums_of}
use Rattle.ntx_legal.proofs.sums.sums_of.Given as goal

abbrev pub invariant-loop-item : goal.invariant-loop-item
invariant-loop-item l = l.sums ≡ sums_of (take l.item-index l.items)
