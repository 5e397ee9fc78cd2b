use Rattle.std.proofs.Common.{arith}
use Rattle.std.proofs.lemmas.Bool.Decides.{nat_tests}
use Rattle.ntx_doc.proofs.LinesLemmas.{lines_last, lines_first}
use Rattle.ntx_doc.proofs.text.next_line.Goals as goal

pub returns-in-None-clause-lines : goal.returns-in-None-clause-lines
returns-in-None-clause-lines c = lines_last c.args.bytes.now (grind (arith, nat_tests, c.is_empty.ensures)) c.in-None.ensures

pub returns-in-Some-clause-lines : goal.returns-in-Some-clause-lines
returns-in-Some-clause-lines c = rw c.without_return.ensures (lines_first c.args.bytes.now c.in-Some.end c.in-Some.ensures)
