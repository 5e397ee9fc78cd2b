use Rattle.std.proofs.Common.{◌≡◌, ◌++◌, drop}
use Rattle.std.specs.Prelude.{All}
use Rattle.ntx_ligkern.specs.Kerns.{kerns_in}
use Rattle.ntx_ligkern.specs.inner.Sound.{IsWide}
use Rattle.ntx_ligkern.proofs.finding.take_in.Given as goal

abbrev pub invariant-loop-i : goal.invariant-loop-i
invariant-loop-i g l =
    let heap = g.N.Nodes.heap l.nodes in
    record {
      kerns : l.kerns.items ++ kerns_in l.fonts heap (drop l.i l.names) ≡ l.fn.kerns.items ++ kerns_in l.fonts heap l.names;
      wide : All IsWide l.kerns.items;
    }
