use Rattle.std.proofs.Common.{arith, ◌∙◌, sym}
use Rattle.ntx_parse.proofs.reads.Answers.{ok, err_by, when, unless, stays_shorter}
use Rattle.ntx_parse.proofs.rules.Rules.prefix.Goals as goal

pub returns-in_err-exp-clause-reads : goal.returns-in_err-exp-clause-reads
returns-in_err-exp-clause-reads g c = when _ (sym c.begins.ensures ∙ c.if-begins.true) (rw (sym c.within.ensures.is) (err_by _ _ c.from_residual.ensures.1 c.in_err-exp.ensures.reads))

pub returns-in_ok-exp-clause-reads : goal.returns-in_ok-exp-clause-reads
returns-in_ok-exp-clause-reads g c = when _ (sym c.begins.ensures ∙ c.if-begins.true) (rw (sym c.within.ensures.is) (ok _ c.in_ok-exp.ensures.reads (c.suffixes_behind.ensures)))

pub returns-in_ok-exp-clause-shorter : goal.returns-in_ok-exp-clause-shorter
returns-in_ok-exp-clause-shorter g c = stays_shorter c.suffixes_behind.ensures (omega (arith, c.in_ok-exp.ensures.shorter))

pub returns-in_err-name-clause-reads : goal.returns-in_err-name-clause-reads
returns-in_err-name-clause-reads g c = unless _ (sym c.begins.ensures ∙ c.if-begins.false) (err_by _ _ c.from_residual-in_err-name.ensures.1 c.in_err-name.ensures.reads)

pub returns-in_ok-name-clause-reads : goal.returns-in_ok-name-clause-reads
returns-in_ok-name-clause-reads g c = unless _ (sym c.begins.ensures ∙ c.if-begins.false) (ok _ c.in_ok-name.ensures.reads (c.suffixes_behind-else-begins.ensures))

pub returns-in_ok-name-clause-shorter : goal.returns-in_ok-name-clause-shorter
returns-in_ok-name-clause-shorter g c = stays_shorter c.suffixes_behind-else-begins.ensures (omega (arith, c.in_ok-name.ensures.shorter))
