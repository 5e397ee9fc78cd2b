use Rattle.ntx_parse.proofs.reads.Answers.{ok, err_by}
use Rattle.ntx_parse.proofs.names.names.Goals as goal

pub returns-in_err-first : goal.returns-in_err-first
returns-in_err-first c = err_by _ _ c.from_residual.ensures.1 c.in_err-first.ensures.reads

pub returns : goal.returns
returns c = ok _ c.in_ok-first.ensures.reads c.names_behind.ensures
