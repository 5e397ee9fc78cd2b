use Rattle.std.proofs.Common.{arith, sym}
use Rattle.ntx_parse.proofs.reads.Answers.{ok, err_by, done, shorter_of}
use Rattle.ntx_parse.proofs.rules.Rules.arm.Goals as goal

pub returns-in_err-take_word-clause-reads : goal.returns-in_err-take_word-clause-reads
returns-in_err-take_word-clause-reads g c = err_by _ _ c.from_residual.ensures.1 c.in_err-take_word.ensures.reads

pub returns-in_err-condition-clause-reads : goal.returns-in_err-condition-clause-reads
returns-in_err-condition-clause-reads g c = ok _ c.in_ok-take_word.ensures.reads (err_by _ _ c.from_residual-in_err-condition.ensures.1 c.in_err-condition.ensures)

pub returns-in_err-expect_word-clause-reads : goal.returns-in_err-expect_word-clause-reads
returns-in_err-expect_word-clause-reads g c = ok _ c.in_ok-take_word.ensures.reads (ok _ c.in_ok-condition.ensures (err_by _ _ c.from_residual-in_err-expect_word.ensures.1 c.in_err-expect_word.ensures.reads))

pub returns-in_err-block-clause-reads : goal.returns-in_err-block-clause-reads
returns-in_err-block-clause-reads g c = ok _ c.in_ok-take_word.ensures.reads (ok _ c.in_ok-condition.ensures (ok _ c.in_ok-expect_word.ensures.reads (rw (sym c.within.ensures.is) (err_by _ _ c.from_residual-in_err-block.ensures.1 c.in_err-block.ensures))))

pub returns-clause-reads : goal.returns-clause-reads
returns-clause-reads g c = ok _ c.in_ok-take_word.ensures.reads (ok _ c.in_ok-condition.ensures (ok _ c.in_ok-expect_word.ensures.reads (rw (sym c.within.ensures.is) (ok _ c.in_ok-block.ensures (done)))))

pub returns-clause-shorter : goal.returns-clause-shorter
returns-clause-shorter g c = omega (arith, c.in_ok-take_word.ensures.shorter, shorter_of c.in_ok-condition.ensures, c.in_ok-expect_word.ensures.shorter, shorter_of c.in_ok-block.ensures)
