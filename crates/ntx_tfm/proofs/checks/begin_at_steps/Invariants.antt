use Rattle.std.proofs.Common.{◌≡◌, ◌+◌, true}
use Rattle.ntx_tfm.specs.Each.{each}
use Rattle.ntx_tfm.specs.Words.{info_at}
use Rattle.ntx_tfm.specs.Layout.{infos_at}
use Rattle.ntx_tfm.specs.Faults.{begins_at_step}
use Rattle.ntx_tfm.proofs.checks.begin_at_steps.Given as goal

abbrev pub invariant-loop-k : goal.invariant-loop-k
invariant-loop-k l = each l.k (λ k. begins_at_step l.lengths (info_at l.bytes (infos_at l.lengths + k))) ≡ true
