use Rattle.std.proofs.Common.{◌∙◌, sym}
use Rattle.ntx_parse.proofs.reads.Answers.{ok, err_by, done, when, unless}
use Rattle.ntx_parse.proofs.names.parameters.Goals as goal

pub returns-in_err-expect_word-clause-reads : goal.returns-in_err-expect_word-clause-reads
returns-in_err-expect_word-clause-reads c = err_by _ _ c.from_residual.ensures.1 c.in_err-expect_word.ensures.reads

pub returns-in_err-take_word-clause-reads : goal.returns-in_err-take_word-clause-reads
returns-in_err-take_word-clause-reads c =
    ok _ c.in_ok-expect_word.ensures.reads (when _ (sym c.begins.ensures ∙ c.if-begins.true) (err_by _ _ c.from_residual-in_err-take_word.ensures.1 c.in_err-take_word.ensures.reads))

pub returns-then-begins-clause-reads : goal.returns-then-begins-clause-reads
returns-then-begins-clause-reads c =
    ok _ c.in_ok-expect_word.ensures.reads (when _ (sym c.begins.ensures ∙ c.if-begins.true) (ok _ c.in_ok-take_word.ensures.reads (rw c.new.ensures done)))

pub returns-in_err-names-clause-reads : goal.returns-in_err-names-clause-reads
returns-in_err-names-clause-reads c =
    ok _ c.in_ok-expect_word.ensures.reads (unless _ (sym c.begins.ensures ∙ c.if-begins.false) (err_by _ _ c.from_residual-in_err-names.ensures.1 c.in_err-names.ensures))

pub returns-in_err-expect_word-2-clause-reads : goal.returns-in_err-expect_word-2-clause-reads
returns-in_err-expect_word-2-clause-reads c =
    ok _ c.in_ok-expect_word.ensures.reads (unless _ (sym c.begins.ensures ∙ c.if-begins.false)
    (ok _ c.in_ok-names.ensures (err_by _ _ c.from_residual-in_err-expect_word-2.ensures.1 c.in_err-expect_word-2.ensures.reads)))

pub returns-clause-reads : goal.returns-clause-reads
returns-clause-reads c =
    ok _ c.in_ok-expect_word.ensures.reads (unless _ (sym c.begins.ensures ∙ c.if-begins.false)
    (ok _ c.in_ok-names.ensures (ok _ c.in_ok-expect_word-2.ensures.reads done)))
