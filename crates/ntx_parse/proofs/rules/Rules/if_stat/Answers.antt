use Rattle.std.proofs.Common.{arith}
use Rattle.ntx_parse.proofs.reads.Answers.{ok, err_by, done, shorter_of}
use Rattle.ntx_parse.proofs.rules.Rules.if_stat.Goals as goal

pub returns-in_err-first-clause-reads : goal.returns-in_err-first-clause-reads
returns-in_err-first-clause-reads g c = err_by _ _ c.from_residual.ensures.1 c.in_err-first.ensures.reads

pub returns-in_err-arms-clause-reads : goal.returns-in_err-arms-clause-reads
returns-in_err-arms-clause-reads g c = ok _ c.in_ok-first.ensures.reads (err_by _ _ c.from_residual-in_err-arms.ensures.1 c.in_err-arms.ensures)

pub returns-in_err-other-clause-reads : goal.returns-in_err-other-clause-reads
returns-in_err-other-clause-reads g c = ok _ c.in_ok-first.ensures.reads (ok _ c.in_ok-arms.ensures (err_by _ _ c.from_residual-in_err-other.ensures.1 c.in_err-other.ensures))

pub returns-in_err-expect_word-clause-reads : goal.returns-in_err-expect_word-clause-reads
returns-in_err-expect_word-clause-reads g c = ok _ c.in_ok-first.ensures.reads (ok _ c.in_ok-arms.ensures (ok _ c.in_ok-other.ensures (err_by _ _ c.from_residual-in_err-expect_word.ensures.1 c.in_err-expect_word.ensures.reads)))

pub returns-clause-reads : goal.returns-clause-reads
returns-clause-reads g c = ok _ c.in_ok-first.ensures.reads (ok _ c.in_ok-arms.ensures (ok _ c.in_ok-other.ensures (ok _ c.in_ok-expect_word.ensures.reads (done))))

pub returns-clause-shorter : goal.returns-clause-shorter
returns-clause-shorter g c = omega (arith, c.in_ok-first.ensures.shorter, shorter_of c.in_ok-arms.ensures, shorter_of c.in_ok-other.ensures, c.in_ok-expect_word.ensures.shorter)
