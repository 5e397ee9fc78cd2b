use Rattle.std.proofs.Common.{◌≡◌, ◌+◌, true}
use Rattle.ntx_tfm.specs.Each.{each}
use Rattle.ntx_tfm.specs.Words.{info_at}
use Rattle.ntx_tfm.specs.Layout.{infos_at}
use Rattle.ntx_tfm.specs.Faults.{has_entries}
use Rattle.ntx_tfm.proofs.checks.have_entries.Given as goal

abbrev pub invariant-loop-k : goal.invariant-loop-k
invariant-loop-k l = each l.k (λ k. has_entries l.lengths (info_at l.bytes (infos_at l.lengths + k))) ≡ true
