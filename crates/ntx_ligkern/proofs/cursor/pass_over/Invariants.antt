use Rattle.std.proofs.Common.{◌≡◌, ◌∷◌, reverse}
use Rattle.ntx_ligkern.specs.Ligatures.{passed}
use Rattle.ntx_ligkern.proofs.cursor.pass_over.Given as goal

abbrev pub invariant-loop-left : goal.invariant-loop-left
invariant-loop-left l = passed l.left l.cursor.before l.cursor.count (l.cursor.at ∷ reverse l.ahead.items) ≡ passed l.fn.over l.fn.from.before l.fn.from.count (l.fn.from.at ∷ reverse l.fn.ahead.items)

abbrev pub decreases-loop-left : goal.decreases-loop-left
decreases-loop-left l = l.left
