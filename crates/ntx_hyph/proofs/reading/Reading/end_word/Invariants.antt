use Rattle.std.proofs.Common.{◌≡◌, ◌++◌, take}
use Rattle.std.specs.List.{filter_map}
use Rattle.ntx_hyph.specs.Words.{gap_in}
use Rattle.ntx_hyph.proofs.reading.Reading.end_word.Given as goal

abbrev pub invariant-loop-i : goal.invariant-loop-i
invariant-loop-i l = record {
  word : l.self.word.items ≡ l.fn.self.word.items;
  gaps : l.self.gaps.items ≡ l.fn.self.gaps.items ++ filter_map (gap_in l.fn.self.word.items) (take l.i-index l.i-items);
}
