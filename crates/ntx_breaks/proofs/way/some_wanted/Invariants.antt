-- No line so far is wanted.
use Rattle.std.proofs.Common.{◌≡◌, drop}
use Rattle.std.specs.List.{list_any}
use Rattle.ntx_breaks.specs.States.{is_wanted}
use Rattle.ntx_breaks.proofs.way.some_wanted.Given as goal

abbrev pub invariant-loop-way : goal.invariant-loop-way
invariant-loop-way l = list_any (is_wanted l.pass) (drop l.way-index l.ways) ≡ list_any (is_wanted l.pass) l.ways
