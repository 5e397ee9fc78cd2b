use Rattle.std.proofs.Common.{sym}
use Rattle.ntx_parse.proofs.reads.Answers.{ok, err_by, done}
use Rattle.ntx_parse.proofs.rules.Rules.unary.Goals as goal

pub returns-in_err-take_word : goal.returns-in_err-take_word
returns-in_err-take_word g c = err_by _ _ c.from_residual.ensures.1 c.in_err-take_word.ensures.reads

pub returns-in_err-operand : goal.returns-in_err-operand
returns-in_err-operand g c = ok _ c.in_ok-take_word.ensures.reads (rw (sym c.within.ensures.is) (err_by _ _ c.from_residual-in_err-operand.ensures.1 c.in_err-operand.ensures))

pub returns : goal.returns
returns g c = ok _ c.in_ok-take_word.ensures.reads (rw (sym c.within.ensures.is) (ok _ c.in_ok-operand.ensures done))
