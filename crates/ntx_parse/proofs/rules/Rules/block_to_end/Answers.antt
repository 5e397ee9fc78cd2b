use Rattle.ntx_parse.proofs.reads.Answers.{ok, err_by, done}
use Rattle.ntx_parse.proofs.rules.Rules.block_to_end.Goals as goal

pub returns-in_err-body : goal.returns-in_err-body
returns-in_err-body g c = err_by _ _ c.from_residual.ensures.1 c.in_err-body.ensures

pub returns-in_err-expect_word : goal.returns-in_err-expect_word
returns-in_err-expect_word g c = ok _ c.in_ok-body.ensures (err_by _ _ c.from_residual-in_err-expect_word.ensures.1 c.in_err-expect_word.ensures.reads)

pub returns : goal.returns
returns g c = ok _ c.in_ok-body.ensures (ok _ c.in_ok-expect_word.ensures.reads (done))
