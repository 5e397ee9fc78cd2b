-- The first of the least states so far.
use Rattle.std.proofs.Common.{◌≡◌, drop}
use Rattle.std.specs.Prelude.{nat_eq}
use Rattle.std.specs.List.{filter, fold}
use Rattle.ntx_breaks.specs.declared.state.State.{State}
use Rattle.ntx_breaks.specs.Chosen.{first_lesser, chosen}
use Rattle.ntx_breaks.proofs.answer.chosen.Given as goal

abbrev pub invariant-loop-state : goal.invariant-loop-state
invariant-loop-state l = fold first_lesser l.best (filter (λ (s : State). nat_eq s.place l.fn.end) (drop l.state-index l.states)) ≡ chosen l.fn.end l.states
