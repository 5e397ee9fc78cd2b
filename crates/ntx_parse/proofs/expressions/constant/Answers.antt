use Rattle.ntx_parse.proofs.reads.Answers.{ok, err_by, done}
use Rattle.ntx_parse.proofs.expressions.constant.Goals as goal

pub returns-in_err-take_word : goal.returns-in_err-take_word
returns-in_err-take_word c = err_by _ _ c.from_residual.ensures.1 c.in_err-take_word.ensures.reads

pub returns : goal.returns
returns c = ok _ c.in_ok-take_word.ensures.reads (done)
