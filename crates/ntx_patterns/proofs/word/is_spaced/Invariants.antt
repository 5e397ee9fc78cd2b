use Rattle.std.proofs.Common.{◌≡◌, drop, false}
use Rattle.ntx_patterns.specs.Pattern.{is_spaced}
use Rattle.ntx_patterns.proofs.word.is_spaced.Given as goal

abbrev pub invariant-loop-byte : goal.invariant-loop-byte
invariant-loop-byte l = is_spaced false l.bytes ≡ is_spaced l.after_digit (drop l.byte-index l.bytes)
