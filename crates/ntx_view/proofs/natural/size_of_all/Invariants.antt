-- proofs/natural/size_of_all/Invariants.antt
-- The size of the items so far.
use Rattle.std.proofs.Common.{◌≡◌, take}
use Rattle.ntx_view.specs.Natural.{hlist_size}
use Rattle.ntx_view.proofs.natural.size_of_all.Given as goal

abbrev pub invariant-loop-item : goal.invariant-loop-item
invariant-loop-item l = l.size ≡ hlist_size (take l.item-index l.items)
