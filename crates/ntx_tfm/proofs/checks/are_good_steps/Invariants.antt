use Rattle.std.proofs.Common.{◌≡◌, ◌+◌, true}
use Rattle.ntx_tfm.specs.Each.{each}
use Rattle.ntx_tfm.specs.Words.{step_at}
use Rattle.ntx_tfm.specs.Layout.{steps_at}
use Rattle.ntx_tfm.specs.Faults.{is_good_step}
use Rattle.ntx_tfm.proofs.checks.are_good_steps.Given as goal

abbrev pub invariant-loop-i : goal.invariant-loop-i
invariant-loop-i l = each l.i (λ i. is_good_step l.bytes l.lengths i (step_at l.bytes (steps_at l.lengths + i))) ≡ true
