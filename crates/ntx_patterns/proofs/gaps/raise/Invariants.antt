use Rattle.std.proofs.Common.{◌≡◌, ℕ, ◌<◌, max, length, take, get_or}
use Rattle.ntx_patterns.specs.Points.{digit_at}
use Rattle.ntx_patterns.proofs.gaps.raise.Given as goal

abbrev pub invariant-loop-i : goal.invariant-loop-i
invariant-loop-i l = (gap : ℕ) → gap < length l.fn.values → get_or l.values gap 0 ≡ max (get_or l.fn.values gap 0) (digit_at (take l.i l.digits) l.place gap)
