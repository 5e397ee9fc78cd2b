use Rattle.std.proofs.Common.{arith, ◌∙◌, sym}
use Rattle.ntx_parse.proofs.reads.Answers.{ok, err_by, done, when, unless}
use Rattle.ntx_parse.proofs.rules.Rules.tail.Goals as goal

pub returns-in_err-key-clause-reads : goal.returns-in_err-key-clause-reads
returns-in_err-key-clause-reads g c = when _ (sym c.begins.ensures ∙ c.if-begins.true) (rw (sym c.within.ensures.is) (err_by _ _ c.from_residual.ensures.1 c.in_err-key.ensures.reads))

pub returns-in_ok-key-clause-reads : goal.returns-in_ok-key-clause-reads
returns-in_ok-key-clause-reads g c = when _ (sym c.begins.ensures ∙ c.if-begins.true) (rw (sym c.within.ensures.is) (ok _ c.in_ok-key.ensures.reads (done)))

pub returns-in_ok-key-clause-shorter : goal.returns-in_ok-key-clause-shorter
returns-in_ok-key-clause-shorter g c = omega (arith, c.in_ok-key.ensures.shorter)

pub returns-in_err-take_word-clause-reads : goal.returns-in_err-take_word-clause-reads
returns-in_err-take_word-clause-reads g c = unless _ (sym c.begins.ensures ∙ c.if-begins.false) (when _ (sym c.begins-else-begins.ensures ∙ c.if-begins-2.true) (err_by _ _ c.from_residual-in_err-take_word.ensures.1 c.in_err-take_word.ensures.reads))

pub returns-in_err-name-clause-reads : goal.returns-in_err-name-clause-reads
returns-in_err-name-clause-reads g c = unless _ (sym c.begins.ensures ∙ c.if-begins.false) (when _ (sym c.begins-else-begins.ensures ∙ c.if-begins-2.true) (ok _ c.in_ok-take_word.ensures.reads (err_by _ _ c.from_residual-in_err-name.ensures.1 c.in_err-name.ensures.reads)))

pub returns-in_ok-name-clause-reads : goal.returns-in_ok-name-clause-reads
returns-in_ok-name-clause-reads g c = unless _ (sym c.begins.ensures ∙ c.if-begins.false) (when _ (sym c.begins-else-begins.ensures ∙ c.if-begins-2.true) (ok _ c.in_ok-take_word.ensures.reads (ok _ c.in_ok-name.ensures.reads (done))))

pub returns-in_ok-name-clause-shorter : goal.returns-in_ok-name-clause-shorter
returns-in_ok-name-clause-shorter g c = omega (arith, c.in_ok-take_word.ensures.shorter, c.in_ok-name.ensures.shorter)

pub returns-in_err-arguments-clause-reads : goal.returns-in_err-arguments-clause-reads
returns-in_err-arguments-clause-reads g c = unless _ (sym c.begins.ensures ∙ c.if-begins.false) (unless _ (sym c.begins-else-begins.ensures ∙ c.if-begins-2.false) (rw (sym c.within-else-begins-2.ensures.is) (err_by _ _ c.from_residual-in_err-arguments.ensures.1 c.in_err-arguments.ensures.reads)))

pub returns-in_ok-arguments-clause-reads : goal.returns-in_ok-arguments-clause-reads
returns-in_ok-arguments-clause-reads g c = unless _ (sym c.begins.ensures ∙ c.if-begins.false) (unless _ (sym c.begins-else-begins.ensures ∙ c.if-begins-2.false) (rw (sym c.within-else-begins-2.ensures.is) (ok _ c.in_ok-arguments.ensures.reads (done))))

pub returns-in_ok-arguments-clause-shorter : goal.returns-in_ok-arguments-clause-shorter
returns-in_ok-arguments-clause-shorter g c = omega (arith, c.in_ok-arguments.ensures.shorter)
