-- The least of the candidates so far.
use Rattle.std.proofs.Common.{◌≡◌, drop}
use Rattle.std.specs.List.{fold}
use Rattle.ntx_breaks.specs.Making.{lesser, least_of}
use Rattle.ntx_breaks.proofs.making.least_of.Given as goal

abbrev pub invariant-loop-state : goal.invariant-loop-state
invariant-loop-state l = fold lesser l.best (drop l.state-index l.candidates) ≡ least_of l.candidates
