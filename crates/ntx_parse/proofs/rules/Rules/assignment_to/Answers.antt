use Rattle.ntx_parse.proofs.reads.Answers.{ok, err_by, done}
use Rattle.ntx_parse.proofs.rules.Rules.assignment_to.Goals as goal

pub returns-in_err-vars : goal.returns-in_err-vars
returns-in_err-vars g c = err_by _ _ c.from_residual.ensures.1 c.in_err-vars.ensures

pub returns-in_err-expect_word : goal.returns-in_err-expect_word
returns-in_err-expect_word g c = ok _ c.in_ok-vars.ensures (err_by _ _ c.from_residual-in_err-expect_word.ensures.1 c.in_err-expect_word.ensures.reads)

pub returns-in_err-values : goal.returns-in_err-values
returns-in_err-values g c = ok _ c.in_ok-vars.ensures (ok _ c.in_ok-expect_word.ensures.reads (err_by _ _ c.from_residual-in_err-values.ensures.1 c.in_err-values.ensures))

pub returns : goal.returns
returns g c = ok _ c.in_ok-vars.ensures (ok _ c.in_ok-expect_word.ensures.reads (ok _ c.in_ok-values.ensures (done)))
