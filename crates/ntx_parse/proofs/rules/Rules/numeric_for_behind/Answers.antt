use Rattle.ntx_parse.proofs.reads.Answers.{ok, err_by, no_memory_by, done}
use Rattle.ntx_parse.proofs.rules.Rules.numeric_for_behind.Goals as goal

pub returns-in_err-take_word : goal.returns-in_err-take_word
returns-in_err-take_word g c = err_by _ _ c.from_residual.ensures.1 c.in_err-take_word.ensures.reads

pub returns-in_err-first : goal.returns-in_err-first
returns-in_err-first g c = ok _ c.in_ok-take_word.ensures.reads (err_by _ _ c.from_residual-in_err-first.ensures.1 c.in_err-first.ensures)

pub returns-in_err-expect_word : goal.returns-in_err-expect_word
returns-in_err-expect_word g c = ok _ c.in_ok-take_word.ensures.reads (ok _ c.in_ok-first.ensures (err_by _ _ c.from_residual-in_err-expect_word.ensures.1 c.in_err-expect_word.ensures.reads))

pub returns-in_err-limit : goal.returns-in_err-limit
returns-in_err-limit g c = ok _ c.in_ok-take_word.ensures.reads (ok _ c.in_ok-first.ensures (ok _ c.in_ok-expect_word.ensures.reads (err_by _ _ c.from_residual-in_err-limit.ensures.1 c.in_err-limit.ensures)))

pub returns-in_err-step : goal.returns-in_err-step
returns-in_err-step g c = ok _ c.in_ok-take_word.ensures.reads (ok _ c.in_ok-first.ensures (ok _ c.in_ok-expect_word.ensures.reads (ok _ c.in_ok-limit.ensures (err_by _ _ c.from_residual-in_err-step.ensures.1 c.in_err-step.ensures))))

pub returns-in_err-body : goal.returns-in_err-body
returns-in_err-body g c = ok _ c.in_ok-take_word.ensures.reads (ok _ c.in_ok-first.ensures (ok _ c.in_ok-expect_word.ensures.reads (ok _ c.in_ok-limit.ensures (ok _ c.in_ok-step.ensures (err_by _ _ c.from_residual-in_err-body.ensures.1 c.in_err-body.ensures)))))

pub returns : goal.returns
returns g c = ok _ c.in_ok-take_word.ensures.reads (ok _ c.in_ok-first.ensures (ok _ c.in_ok-expect_word.ensures.reads (ok _ c.in_ok-limit.ensures (ok _ c.in_ok-step.ensures (ok _ c.in_ok-body.ensures (rw c.in_ok-name.ensures done))))))

pub returns-in_err-name : goal.returns-in_err-name
returns-in_err-name g c = no_memory_by _ c.from_residual-in_err-name.ensures.1
