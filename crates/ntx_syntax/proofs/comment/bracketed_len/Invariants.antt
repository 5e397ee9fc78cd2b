use Rattle.std.proofs.Common.{◌+◌, ◌≡◌, drop}
use Rattle.std.specs.Prelude.{option_map}
use Rattle.ntx_syntax.specs.inner.Front.{bracketed_len}
use Rattle.ntx_syntax.proofs.comment.bracketed_len.Given as goal

abbrev pub invariant-loop-at : goal.invariant-loop-at
invariant-loop-at l =
    option_map (λ n. l.at + n) (bracketed_len l.level (drop l.at l.bytes)) ≡ bracketed_len l.level l.bytes
