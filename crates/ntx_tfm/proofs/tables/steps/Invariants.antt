use Rattle.std.proofs.Common.{◌≡◌, ◌+◌}
use Rattle.ntx_tfm.specs.Each.{table}
use Rattle.ntx_tfm.specs.Words.{step_at}
use Rattle.ntx_tfm.specs.Layout.{steps_at}
use Rattle.ntx_tfm.proofs.tables.steps.Given as goal

abbrev pub invariant-loop-i : goal.invariant-loop-i
invariant-loop-i l = l.steps.items ≡ table (λ i. step_at l.bytes (steps_at l.lengths + i)) l.i
