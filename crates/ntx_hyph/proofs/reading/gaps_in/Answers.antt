use Rattle.std.proofs.Common.{map, drop, ap}
use Rattle.std.proofs.lemmas.List.{drop_all}
use Rattle.ntx_patterns.specs.Kept.{table}
use Rattle.ntx_patterns.specs.Points.{points_in}
use Rattle.ntx_hyph.specs.Words.{letter_at, gaps_in}
use Rattle.ntx_hyph.specs.Hyphenation.{points_with}
use Rattle.ntx_hyph.proofs.Words.{all_read}
use Rattle.ntx_hyph.proofs.reading.gaps_in.Goals as goal

pub returns : goal.returns
returns g c =
    let points = points_with (points_in (table c.args.p.now)) c.args.params.now in
    let letter = letter_at (g.N.Nodes.heap c.args.nodes.now) in
    let names = c.args.names.now in
    let i = c.loop-n.n-index in
    all_read points c.loop-n.reading.gaps.items c.end_word.new.self.gaps.items (gaps_in points (map letter names)) c.loop-n.reading.word.items (map letter (drop i names)) c.loop-n.invariant.one_font
    (ap (map letter) (drop_all i names c.loop-n-test.false)) c.loop-n.invariant.gaps c.in_ok-end_word.ensures.gaps
