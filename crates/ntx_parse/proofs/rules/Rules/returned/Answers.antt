use Rattle.std.proofs.Common.{◌∙◌, sym}
use Rattle.ntx_parse.proofs.reads.Answers.{done, when, unless}
use Rattle.ntx_parse.proofs.rules.Rules.returned.Goals as goal

pub returns-then-ends_returned : goal.returns-then-ends_returned
returns-then-ends_returned g c = when _ (sym c.ends_returned.ensures ∙ c.if-ends_returned.true) (rw c.new.ensures done)

pub returns-else-ends_returned : goal.returns-else-ends_returned
returns-else-ends_returned g c = unless _ (sym c.ends_returned.ensures ∙ c.if-ends_returned.false) (c.exps.ensures)
