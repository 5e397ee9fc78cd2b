use Rattle.ntx_parse.proofs.reads.Answers.{ok, err_by, done}
use Rattle.ntx_parse.proofs.statements.empty.Goals as goal

pub returns-in_err-take_word-clause-reads : goal.returns-in_err-take_word-clause-reads
returns-in_err-take_word-clause-reads c = err_by _ _ c.from_residual.ensures.1 c.in_err-take_word.ensures.reads

pub returns-clause-reads : goal.returns-clause-reads
returns-clause-reads c = ok _ c.in_ok-take_word.ensures.reads (done)
