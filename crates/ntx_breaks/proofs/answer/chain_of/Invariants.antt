-- What is left of the way back, and the places so far.
use Rattle.std.proofs.Common.{◌≡◌, ◌++◌, length, reverse}
use Rattle.ntx_breaks.specs.Chosen.{chain_back}
use Rattle.ntx_breaks.proofs.answer.chain_of.Given as goal

abbrev pub invariant-loop-steps : goal.invariant-loop-steps
invariant-loop-steps l = chain_back l.states l.steps l.state ++ reverse l.places.items ≡ chain_back l.states (length l.states) l.fn.last

abbrev pub decreases-loop-steps : goal.decreases-loop-steps
decreases-loop-steps l = l.steps
