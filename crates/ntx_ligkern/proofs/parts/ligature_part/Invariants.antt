use Rattle.std.proofs.Common.{ℕ, ◌≤◌, [], ◌∷◌}
use Rattle.ntx_ligkern.specs.Ligaturing.{OfDisc, InPart, from_spot}
use Rattle.ntx_ligkern.specs.inner.Cursors.{spot_from}
use Rattle.ntx_ligkern.specs.inner.Chores.{RunsOn, left_from}
use Rattle.ntx_ligkern.proofs.parts.ligature_part.Given as goal

abbrev pub invariant-loop-at : goal.invariant-loop-at
invariant-loop-at g l =
    let heap = g.N.Nodes.heap in
    record {
      runs : (head : ℕ) → RunsOn l.fonts head (OfDisc l.disc l.fn.f ∷ []) (heap l.fn.nodes) head (from_spot InPart (spot_from l.ahead.items l.at)) (heap l.nodes);
      later : (heap l.fn.nodes).next ≤ (heap l.nodes).next;
    }

abbrev pub decreases-loop-at : goal.decreases-loop-at
decreases-loop-at g l = left_from (g.N.Nodes.heap l.nodes) (spot_from l.ahead.items l.at)
