use Rattle.std.proofs.Common.{sym}
use Rattle.ntx_parse.proofs.reads.Answers.{ok, err_by, no_memory_by, done}
use Rattle.ntx_parse.proofs.rules.Rules.body.Goals as goal

pub returns-in_err-parameters : goal.returns-in_err-parameters
returns-in_err-parameters g c = rw (sym c.within.ensures.is) (err_by _ _ c.from_residual.ensures.1 c.in_err-parameters.ensures.reads)

pub returns-in_err-block : goal.returns-in_err-block
returns-in_err-block g c = rw (sym c.within.ensures.is) (ok _ c.in_ok-parameters.ensures.reads (rw (sym c.within_function.ensures.is) (err_by _ _ c.from_residual-in_err-block.ensures.1 c.in_err-block.ensures)))

pub returns-in_err-expect_word : goal.returns-in_err-expect_word
returns-in_err-expect_word g c = rw (sym c.within.ensures.is) (ok _ c.in_ok-parameters.ensures.reads (rw (sym c.within_function.ensures.is) (ok _ c.in_ok-block.ensures (err_by _ _ c.from_residual-in_err-expect_word.ensures.1 c.in_err-expect_word.ensures.reads))))

pub returns : goal.returns
returns g c = rw (sym c.within.ensures.is) (ok _ c.in_ok-parameters.ensures.reads (rw (sym c.within_function.ensures.is) (ok _ c.in_ok-block.ensures (ok _ c.in_ok-expect_word.ensures.reads (rw c.in_ok-new.ensures done)))))

pub returns-in_err-new : goal.returns-in_err-new
returns-in_err-new g c = no_memory_by _ c.from_residual-in_err-new.ensures.1
