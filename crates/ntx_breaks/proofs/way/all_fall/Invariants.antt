-- The states so far fall.
use Rattle.std.proofs.Common.{◌≡◌, drop}
use Rattle.std.specs.List.{list_all}
use Rattle.ntx_breaks.specs.States.{falls}
use Rattle.ntx_breaks.proofs.way.all_fall.Given as goal

abbrev pub invariant-loop-way : goal.invariant-loop-way
invariant-loop-way l = list_all (falls l.forced) (drop l.way-index l.ways) ≡ list_all (falls l.forced) l.ways
