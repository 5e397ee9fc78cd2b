use Rattle.std.proofs.Common.{◌≡◌, ◌++◌, drop}
use Rattle.ntx_patterns.specs.Pattern.{digits_after}
use Rattle.ntx_patterns.proofs.word.digits.Given as goal

abbrev pub invariant-loop-byte : goal.invariant-loop-byte
invariant-loop-byte l = digits_after 0 l.word ≡ l.digits.items ++ digits_after l.digit (drop l.byte-index l.word)
