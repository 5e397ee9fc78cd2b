use Rattle.std.proofs.Common.{drop}
use Rattle.std.specs.Prelude.{All}
use Rattle.ntx_hyph.specs.Hyphenation.{hyphenated}
use Rattle.ntx_hyph.specs.inner.Sound.{IsSound}
use Rattle.ntx_num.proofs.Traces.{Goes}
use Rattle.ntx_hyph.proofs.insertion.hyphenate_gaps.Given as goal

abbrev pub invariant-loop-gap : goal.invariant-loop-gap
invariant-loop-gap g l =
    let heap = g.N.Nodes.heap in
    record {
      goes : Goes (hyphenated l.char) l.gaps (heap l.fn.nodes) (drop l.gap-index l.gaps) (heap l.nodes);
      sound : All (IsSound (heap l.nodes)) l.gaps;
    }
