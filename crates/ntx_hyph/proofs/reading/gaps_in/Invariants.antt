use Rattle.std.proofs.Common.{◌≡◌, map, drop}
use Rattle.ntx_patterns.specs.Kept.{table}
use Rattle.ntx_patterns.specs.Points.{points_in}
use Rattle.ntx_hyph.specs.Words.{letter_at, gaps_in}
use Rattle.ntx_hyph.specs.Hyphenation.{points_with}
use Rattle.ntx_hyph.specs.inner.Reading.{AreOfOneFont, gaps_with}
use Rattle.ntx_hyph.proofs.reading.gaps_in.Given as goal

abbrev pub invariant-loop-n : goal.invariant-loop-n
invariant-loop-n g l =
    let points = points_with (points_in (table l.p)) l.params in
    let letter = letter_at (g.N.Nodes.heap l.nodes) in
    record {
      gaps : gaps_with points l.reading.gaps.items l.reading.word.items (map letter (drop l.n-index l.names)) ≡ gaps_in points (map letter l.names);
      one_font : AreOfOneFont l.reading.word.items;
    }
