use Rattle.std.proofs.Common.{◌≡◌, ◌∷◌, take, map}
use Rattle.ntx_patterns.specs.Pattern.{dot}
use Rattle.ntx_patterns.specs.Points.{symbol_of}
use Rattle.ntx_patterns.proofs.gaps.dotted.Given as goal

abbrev pub invariant-loop-byte : goal.invariant-loop-byte
invariant-loop-byte l = l.text.items ≡ dot ∷ map symbol_of (take l.byte-index l.word)
