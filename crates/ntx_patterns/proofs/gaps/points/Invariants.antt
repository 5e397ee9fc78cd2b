use Rattle.std.proofs.Common.{◌≡◌, length, filter}
use Rattle.std.specs.List.{range_with_len}
use Rattle.ntx_patterns.specs.Kept.{table}
use Rattle.ntx_patterns.specs.Points.{dotted, is_allowed, value_in}
use Rattle.ntx_patterns.proofs.gaps.points.Given as goal

abbrev pub invariant-loop-i : goal.invariant-loop-i
invariant-loop-i l = l.points.items ≡ filter (is_allowed (value_in (table l.p) (dotted l.word)) (length l.word) l.left l.right) (range_with_len 0 l.i)
