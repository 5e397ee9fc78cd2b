use Rattle.std.proofs.Common.{◌≡◌, ◌+◌}
use Rattle.ntx_tfm.specs.Each.{table}
use Rattle.ntx_tfm.specs.Words.{quad_at}
use Rattle.ntx_tfm.specs.Layout.{kerns_at}
use Rattle.ntx_tfm.specs.Scaling.{scaled}
use Rattle.ntx_tfm.proofs.tables.kerns.Given as goal

abbrev pub invariant-loop-k : goal.invariant-loop-k
invariant-loop-k l = l.kerns.items ≡ table (λ k. scaled l.at (quad_at l.bytes (kerns_at l.lengths + k))) l.k
