-- The size of the items so far.
use Rattle.std.proofs.Common.{◌≡◌, take}
use Rattle.ntx_pack.specs.Vertical.{vlist_size}
use Rattle.ntx_pack.proofs.vertical.size_of_all.Given as goal

abbrev pub invariant-loop-item : goal.invariant-loop-item
invariant-loop-item l = l.size ≡ vlist_size (take l.item-index l.items)
