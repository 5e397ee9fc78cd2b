-- The states so far.
use Rattle.std.proofs.Common.{◌≡◌, map, take}
use Rattle.std.specs.List.{All}
use Rattle.ntx_breaks.specs.Making.{free}
use Rattle.ntx_breaks.specs.inner.Bounds.{IsMade}
use Rattle.ntx_breaks.proofs.making.all_free.Given as goal

abbrev pub invariant-loop-way : goal.invariant-loop-way
invariant-loop-way l = (l.candidates.items ≡ map (free l.fn.to) (take l.way-index l.ways)) × All (IsMade l.fn.to) l.candidates.items
