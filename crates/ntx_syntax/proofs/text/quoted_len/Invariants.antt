use Rattle.std.proofs.Common.{length, ◌-◌, ◌+◌, ◌≡◌, ◌≤◌, drop}
use Rattle.std.specs.Prelude.{option_map}
use Rattle.ntx_syntax.specs.inner.Front.{quoted_len}
use Rattle.ntx_syntax.proofs.text.quoted_len.Given as goal

abbrev pub invariant-loop-at : goal.invariant-loop-at
invariant-loop-at l =
    (option_map (λ n. l.at + n) (quoted_len l.quote 0 (drop l.at l.bytes)) ≡ quoted_len l.quote 0 l.bytes) × (l.at ≤ length l.bytes)

abbrev pub decreases-loop-at : goal.decreases-loop-at
decreases-loop-at l = length l.bytes - l.at
