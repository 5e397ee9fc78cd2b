use Rattle.std.proofs.Common.{◌≡◌, ◌-◌, length}
use Rattle.ntx_pairs.specs.Pairs.{deciding}
use Rattle.ntx_pairs.proofs.program.pair_from.Given as goal

abbrev pub invariant-loop-step : goal.invariant-loop-step
invariant-loop-step l = deciding l.right l.place l.font.steps ≡ deciding l.right l.fn.start l.font.steps

abbrev pub decreases-loop-step : goal.decreases-loop-step
decreases-loop-step l = length l.font.steps - l.place
