-- The lines so far.
use Rattle.std.proofs.Common.{◌≡◌, map, take}
use Rattle.std.specs.List.{All}
use Rattle.ntx_breaks.specs.States.{way_to}
use Rattle.ntx_breaks.specs.inner.Bounds.{IsWay}
use Rattle.ntx_breaks.proofs.way.ways_to.Given as goal

abbrev pub invariant-loop-from : goal.invariant-loop-from
invariant-loop-from l = (l.ways.items ≡ map (way_to l.fn.params l.fn.items l.fn.pass l.fn.to) (take l.from-index l.live)) × All (IsWay l.fn.to) l.ways.items
