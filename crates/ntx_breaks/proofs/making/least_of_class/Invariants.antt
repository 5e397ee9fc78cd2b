-- The least of the candidates of the class so far.
use Rattle.std.proofs.Common.{◌≡◌, drop}
use Rattle.std.specs.List.{fold}
use Rattle.ntx_breaks.specs.Making.{lesser, least_of, of_class}
use Rattle.ntx_breaks.proofs.making.least_of_class.Given as goal

abbrev pub invariant-loop-state : goal.invariant-loop-state
invariant-loop-state l = fold lesser l.best (of_class l.class (drop l.state-index l.candidates)) ≡ least_of (of_class l.class l.candidates)
