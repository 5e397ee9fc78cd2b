-- The states so far.
use Rattle.std.proofs.Common.{◌≡◌, map, take}
use Rattle.std.specs.List.{All, filter}
use Rattle.ntx_breaks.specs.States.{is_wanted}
use Rattle.ntx_breaks.specs.Making.{paid}
use Rattle.ntx_breaks.specs.inner.Bounds.{IsMade}
use Rattle.ntx_breaks.proofs.making.all_paid.Given as goal

abbrev pub invariant-loop-way : goal.invariant-loop-way
invariant-loop-way l = (l.candidates.items ≡ map (paid l.fn.params l.fn.items l.fn.to) (filter (is_wanted l.fn.pass) (take l.way-index l.ways))) × All (IsMade l.fn.to) l.candidates.items
