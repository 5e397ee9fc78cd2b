use Rattle.std.proofs.Common.{arith, ◌∙◌, sym}
use Rattle.ntx_parse.proofs.reads.Answers.{ok, err_by, when, unless, stays_shorter}
use Rattle.ntx_parse.proofs.rules.Rules.for_loop.Goals as goal

pub returns-in_err-take_word-clause-reads : goal.returns-in_err-take_word-clause-reads
returns-in_err-take_word-clause-reads g c = err_by _ _ c.from_residual.ensures.1 c.in_err-take_word.ensures.reads

pub returns-in_err-name-clause-reads : goal.returns-in_err-name-clause-reads
returns-in_err-name-clause-reads g c = ok _ c.in_ok-take_word.ensures.reads (err_by _ _ c.from_residual-in_err-name.ensures.1 c.in_err-name.ensures.reads)

pub returns-then-begins-clause-reads : goal.returns-then-begins-clause-reads
returns-then-begins-clause-reads g c = ok _ c.in_ok-take_word.ensures.reads (ok _ c.in_ok-name.ensures.reads (when _ (sym c.begins.ensures ∙ c.if-begins.true) (c.numeric_for_behind.ensures)))

pub returns-then-begins-clause-shorter : goal.returns-then-begins-clause-shorter
returns-then-begins-clause-shorter g c = stays_shorter c.numeric_for_behind.ensures (omega (arith, c.in_ok-take_word.ensures.shorter, c.in_ok-name.ensures.shorter))

pub returns-else-begins-clause-reads : goal.returns-else-begins-clause-reads
returns-else-begins-clause-reads g c = ok _ c.in_ok-take_word.ensures.reads (ok _ c.in_ok-name.ensures.reads (unless _ (sym c.begins.ensures ∙ c.if-begins.false) (c.generic_for_behind.ensures)))

pub returns-else-begins-clause-shorter : goal.returns-else-begins-clause-shorter
returns-else-begins-clause-shorter g c = stays_shorter c.generic_for_behind.ensures (omega (arith, c.in_ok-take_word.ensures.shorter, c.in_ok-name.ensures.shorter))
