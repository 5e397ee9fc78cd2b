use Rattle.std.proofs.Common.{◌≡◌, ℕ, ◌+◌, ◌<◌, length, drop, get_or, vec_len}
use Rattle.ntx_patterns.specs.Kept.{table}
use Rattle.ntx_patterns.specs.Points.{greatest, digit_in}
use Rattle.ntx_patterns.proofs.gaps.gap_values.Given as goal

abbrev pub invariant-loop-place : goal.invariant-loop-place
invariant-loop-place l = (vec_len l.values ≡ length l.text + 1) × ((gap : ℕ) → gap < length l.text + 1 → get_or l.values.items gap 0 ≡ greatest l.place (λ place. digit_in (table l.p) (drop place l.text) place gap))
