use Rattle.std.proofs.Common.{ℕ, ◌+◌, ◌≤◌, if◌then◌else◌, [], ◌∷◌, reverse, length}
use Rattle.ntx_ligkern.specs.Ligaturing.{AtDisc}
use Rattle.ntx_ligkern.specs.inner.Chores.{RunsOn, after_absorbing}
use Rattle.ntx_ligkern.proofs.parts.ligature_disc.Given as goal

abbrev pub invariant-loop-more : goal.invariant-loop-more
invariant-loop-more g l =
    let heap = g.N.Nodes.heap in
    record {
      runs : (head : ℕ) → RunsOn l.fonts head (AtDisc l.disc (reverse l.fn.ahead.items) ∷ []) (heap l.fn.nodes) head (after_absorbing l.more l.disc (reverse l.ahead.items)) (heap l.nodes);
      later : (heap l.fn.nodes).next ≤ (heap l.nodes).next;
      fewer : length l.ahead.items ≤ length l.fn.ahead.items;
    }

abbrev pub decreases-loop-more : goal.decreases-loop-more
decreases-loop-more g l = length l.ahead.items + (if l.more then 1 else 0)
