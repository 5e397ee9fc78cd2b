use Rattle.ntx_parse.proofs.reads.Answers.{ok, err_by, done}
use Rattle.ntx_parse.proofs.rules.Rules.generic_for_behind.Goals as goal

pub returns-in_err-names : goal.returns-in_err-names
returns-in_err-names g c = err_by _ _ c.from_residual.ensures.1 c.in_err-names.ensures

pub returns-in_err-expect_word : goal.returns-in_err-expect_word
returns-in_err-expect_word g c = ok _ c.in_ok-names.ensures (err_by _ _ c.from_residual-in_err-expect_word.ensures.1 c.in_err-expect_word.ensures.reads)

pub returns-in_err-values : goal.returns-in_err-values
returns-in_err-values g c = ok _ c.in_ok-names.ensures (ok _ c.in_ok-expect_word.ensures.reads (err_by _ _ c.from_residual-in_err-values.ensures.1 c.in_err-values.ensures))

pub returns-in_err-body : goal.returns-in_err-body
returns-in_err-body g c = ok _ c.in_ok-names.ensures (ok _ c.in_ok-expect_word.ensures.reads (ok _ c.in_ok-values.ensures (err_by _ _ c.from_residual-in_err-body.ensures.1 c.in_err-body.ensures)))

pub returns : goal.returns
returns g c = ok _ c.in_ok-names.ensures (ok _ c.in_ok-expect_word.ensures.reads (ok _ c.in_ok-values.ensures (ok _ c.in_ok-body.ensures (done))))
