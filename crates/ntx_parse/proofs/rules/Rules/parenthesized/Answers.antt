use Rattle.std.proofs.Common.{arith}
use Rattle.ntx_parse.proofs.reads.Answers.{ok, err_by, done, shorter_of}
use Rattle.ntx_parse.proofs.rules.Rules.parenthesized.Goals as goal

pub returns-in_err-expect_word-clause-reads : goal.returns-in_err-expect_word-clause-reads
returns-in_err-expect_word-clause-reads g c = err_by _ _ c.from_residual.ensures.1 c.in_err-expect_word.ensures.reads

pub returns-in_err-exp-clause-reads : goal.returns-in_err-exp-clause-reads
returns-in_err-exp-clause-reads g c = ok _ c.in_ok-expect_word.ensures.reads (err_by _ _ c.from_residual-in_err-exp.ensures.1 c.in_err-exp.ensures)

pub returns-in_err-expect_word-2-clause-reads : goal.returns-in_err-expect_word-2-clause-reads
returns-in_err-expect_word-2-clause-reads g c = ok _ c.in_ok-expect_word.ensures.reads (ok _ c.in_ok-exp.ensures (err_by _ _ c.from_residual-in_err-expect_word-2.ensures.1 c.in_err-expect_word-2.ensures.reads))

pub returns-clause-reads : goal.returns-clause-reads
returns-clause-reads g c = ok _ c.in_ok-expect_word.ensures.reads (ok _ c.in_ok-exp.ensures (ok _ c.in_ok-expect_word-2.ensures.reads (done)))

pub returns-clause-shorter : goal.returns-clause-shorter
returns-clause-shorter g c = omega (arith, c.in_ok-expect_word.ensures.shorter, shorter_of c.in_ok-exp.ensures, c.in_ok-expect_word-2.ensures.shorter)
