use Rattle.std.proofs.Common.{◌≡◌, ◌≤◌, ◌-◌, vec_len}
use Rattle.ntx_io.proofs.SoFar.{GivenSoFar}
use Rattle.ntx_io.proofs.whole.read_all.Given as goal

abbrev pub invariant-loop-bytes : goal.invariant-loop-bytes
invariant-loop-bytes g l =
    ((g.S.Source.input l.source).faults ≡ (g.S.Source.input l.fn.source).faults) × GivenSoFar (g.S.Source.input l.fn.source).left (g.S.Source.input l.source).left l.bytes.items × (vec_len l.bytes ≤ l.limit)

abbrev pub decreases-loop-bytes : goal.decreases-loop-bytes
decreases-loop-bytes g l = l.limit - vec_len l.bytes
