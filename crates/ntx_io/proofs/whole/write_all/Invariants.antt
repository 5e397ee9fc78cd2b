use Rattle.std.proofs.Common.{◌≡◌, length}
use Rattle.ntx_io.proofs.SoFar.{WrittenSoFar}
use Rattle.ntx_io.proofs.whole.write_all.Given as goal

abbrev pub invariant-loop-rest : goal.invariant-loop-rest
invariant-loop-rest g l =
    ((g.K.Sink.output l.sink).faults ≡ (g.K.Sink.output l.fn.sink).faults) × WrittenSoFar (g.K.Sink.output l.fn.sink).taken (g.K.Sink.output l.sink).taken l.bytes l.rest × (length l.bytes ≡ 0 → l.sink ≡ l.fn.sink)

abbrev pub decreases-loop-rest : goal.decreases-loop-rest
decreases-loop-rest g l = length l.rest
