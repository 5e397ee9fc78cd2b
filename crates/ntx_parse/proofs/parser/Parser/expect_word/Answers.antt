use Rattle.std.proofs.Common.{refl, ◌∙◌, sym}
use Rattle.ntx_parse.proofs.reads.Answers.{when, unless, stops_at_once}
use Rattle.ntx_parse.proofs.parser.Parser.expect_word.Goals as goal

pub returns-then-begins-clause-reads : goal.returns-then-begins-clause-reads
returns-then-begins-clause-reads c = when _ (sym c.begins.ensures ∙ c.if-begins.true) c.take_word.ensures.reads

pub returns-else-begins-clause-reads : goal.returns-else-begins-clause-reads
returns-else-begins-clause-reads c = rw c.fault.ensures (unless _ (sym c.begins.ensures ∙ c.if-begins.false) (stops_at_once _ refl refl))
