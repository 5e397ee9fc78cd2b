use Rattle.std.proofs.Common.{arith, ◌∙◌, sym}
use Rattle.ntx_parse.proofs.reads.Answers.{ok, err_by, when, unless, stays_shorter}
use Rattle.ntx_parse.proofs.rules.Rules.local.Goals as goal

pub returns-in_err-take_word-clause-reads : goal.returns-in_err-take_word-clause-reads
returns-in_err-take_word-clause-reads g c = err_by _ _ c.from_residual.ensures.1 c.in_err-take_word.ensures.reads

pub returns-then-begins-clause-reads : goal.returns-then-begins-clause-reads
returns-then-begins-clause-reads g c = ok _ c.in_ok-take_word.ensures.reads (when _ (sym c.begins.ensures ∙ c.if-begins.true) (c.local_function_behind.ensures))

pub returns-then-begins-clause-shorter : goal.returns-then-begins-clause-shorter
returns-then-begins-clause-shorter g c = stays_shorter c.local_function_behind.ensures (omega (arith, c.in_ok-take_word.ensures.shorter))

pub returns-else-begins-clause-reads : goal.returns-else-begins-clause-reads
returns-else-begins-clause-reads g c = ok _ c.in_ok-take_word.ensures.reads (unless _ (sym c.begins.ensures ∙ c.if-begins.false) (c.locals_behind.ensures))

pub returns-else-begins-clause-shorter : goal.returns-else-begins-clause-shorter
returns-else-begins-clause-shorter g c = stays_shorter c.locals_behind.ensures (omega (arith, c.in_ok-take_word.ensures.shorter))
