use Rattle.std.proofs.Common.{◌≡◌, length}
use Rattle.ntx_num.specs.Answer.{result_map}
use Rattle.ntx_patterns.specs.File.{patterns_on, words_in, words_of}
use Rattle.ntx_patterns.specs.Kept.{row}
use Rattle.ntx_patterns.specs.inner.Packed.{AllPacked}
use Rattle.ntx_patterns.specs.inner.Adding.{with_patterns}
use Rattle.ntx_patterns.proofs.read.add_line.Given as goal

abbrev pub invariant-loop-word : goal.invariant-loop-word
invariant-loop-word l = (result_map (with_patterns (row l.fn.trie)) (patterns_on l.number (words_of l.line)) ≡ result_map (with_patterns (row l.trie)) (patterns_on l.number (words_in l.rest))) × AllPacked l.trie

abbrev pub decreases-loop-word : goal.decreases-loop-word
decreases-loop-word l = length l.rest
