use Rattle.std.proofs.Common.{◌≡◌, ◌≤◌, ◌++◌, drop}
use Rattle.ntx_dvi.specs.Bytes.{definitions}
use Rattle.ntx_dvi.proofs.fonts.Fonts.push_definitions.Given as goal

abbrev pub invariant-loop-number : goal.invariant-loop-number
invariant-loop-number l =
    (l.number ≤ 64) × (l.bytes.items ≡ l.fn.bytes.items ++ definitions l.number (drop l.number l.self-inside.definitions.items))

abbrev pub decreases-loop-number : goal.decreases-loop-number
decreases-loop-number l = l.number
