use Rattle.std.proofs.Common.{sym}
use Rattle.ntx_parse.proofs.reads.Answers.{ok, err_by}
use Rattle.ntx_parse.proofs.rules.Rules.loop_body.Goals as goal

pub returns-in_err-expect_word : goal.returns-in_err-expect_word
returns-in_err-expect_word g c = err_by _ _ c.from_residual.ensures.1 c.in_err-expect_word.ensures.reads

pub returns : goal.returns
returns g c = ok _ c.in_ok-expect_word.ensures.reads (rw (sym c.within_loop.ensures.is) (c.block_to_end.ensures))
