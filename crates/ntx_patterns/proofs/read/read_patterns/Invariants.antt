use Rattle.std.proofs.Common.{◌≡◌, ◌+◌, ◌≤◌, length}
use Rattle.std.specs.List.{slice_split}
use Rattle.ntx_num.specs.Answer.{result_map}
use Rattle.ntx_patterns.specs.File.{is_feed, patterns_from, patterns_of}
use Rattle.ntx_patterns.specs.Table.{table_of}
use Rattle.ntx_patterns.specs.Kept.{row}
use Rattle.ntx_patterns.specs.inner.Packed.{AllPacked}
use Rattle.ntx_patterns.specs.inner.Adding.{with_patterns}
use Rattle.ntx_patterns.proofs.read.read_patterns.Given as goal

abbrev pub invariant-loop-rest : goal.invariant-loop-rest
invariant-loop-rest l = (result_map table_of (patterns_of l.bytes) ≡ result_map (with_patterns (row l.trie)) (patterns_from (l.number + 1) (slice_split is_feed l.rest))) × AllPacked l.trie × (l.number + length l.rest ≤ length l.bytes)

abbrev pub decreases-loop-rest : goal.decreases-loop-rest
decreases-loop-rest l = length l.rest
