use Rattle.std.proofs.Common.{inl, inr, refl}
use Rattle.ntx_patterns.specs.File.{is_feed}
use Rattle.ntx_patterns.proofs.LinesLemmas.{lines_last, lines_first}
use Rattle.ntx_patterns.proofs.read.next_line.Goals as goal

pub returns-in-None-clause-lines : goal.returns-in-None-clause-lines
returns-in-None-clause-lines c = inr (lines_last is_feed c.args.bytes.now c.in-None.ensures, refl)

pub returns-in-Some-clause-lines : goal.returns-in-Some-clause-lines
returns-in-Some-clause-lines c = inl (lines_first is_feed c.args.bytes.now c.in-Some.end c.in-Some.ensures)
