use Rattle.std.proofs.Common.{◌≡◌, ◌++◌, drop}
use Rattle.std.specs.Prelude.{All}
use Rattle.ntx_ligkern.specs.Kerns.{kerns_from, kerns_of}
use Rattle.ntx_ligkern.specs.inner.Sound.{IsWide}
use Rattle.ntx_ligkern.proofs.finding.kerns_of.Given as goal

abbrev pub invariant-loop-i : goal.invariant-loop-i
invariant-loop-i g l =
    let heap = g.N.Nodes.heap l.nodes in
    record {
      kerns : l.kerns.items ++ kerns_from l.fonts heap l.before (drop l.i l.names) ≡ kerns_of l.fonts heap l.names;
      wide : All IsWide l.kerns.items;
    }
