use Rattle.std.proofs.Common.{drop}
use Rattle.std.specs.Prelude.{All}
use Rattle.ntx_ligkern.specs.Kerning.{kern_made}
use Rattle.ntx_ligkern.specs.inner.Sound.{IsPlaced}
use Rattle.ntx_num.proofs.Traces.{Goes}
use Rattle.ntx_ligkern.proofs.insertion.make_kerns.Given as goal

abbrev pub invariant-loop-k : goal.invariant-loop-k
invariant-loop-k g l =
    let heap = g.N.Nodes.heap in
    record {
      goes : Goes kern_made l.kerns (heap l.fn.nodes) (drop l.k-index l.kerns) (heap l.nodes);
      placed : All (IsPlaced (heap l.nodes)) l.kerns;
    }
