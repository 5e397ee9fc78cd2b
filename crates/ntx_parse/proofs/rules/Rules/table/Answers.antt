use Rattle.ntx_parse.proofs.reads.Answers.{ok, err_by, done}
use Rattle.ntx_parse.proofs.rules.Rules.table.Goals as goal

pub returns-in_err-expect_word : goal.returns-in_err-expect_word
returns-in_err-expect_word g c = err_by _ _ c.from_residual.ensures.1 c.in_err-expect_word.ensures.reads

pub returns-in_err-fields : goal.returns-in_err-fields
returns-in_err-fields g c = ok _ c.in_ok-expect_word.ensures.reads (err_by _ _ c.from_residual-in_err-fields.ensures.1 c.in_err-fields.ensures)

pub returns-in_err-expect_word-2 : goal.returns-in_err-expect_word-2
returns-in_err-expect_word-2 g c = ok _ c.in_ok-expect_word.ensures.reads (ok _ c.in_ok-fields.ensures (err_by _ _ c.from_residual-in_err-expect_word-2.ensures.1 c.in_err-expect_word-2.ensures.reads))

pub returns : goal.returns
returns g c = ok _ c.in_ok-expect_word.ensures.reads (ok _ c.in_ok-fields.ensures (ok _ c.in_ok-expect_word-2.ensures.reads (done)))
