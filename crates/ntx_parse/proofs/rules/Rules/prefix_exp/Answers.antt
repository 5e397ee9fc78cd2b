use Rattle.ntx_parse.proofs.reads.Answers.{ok, err_by, no_memory_by, done}
use Rattle.ntx_parse.proofs.rules.Rules.prefix_exp.Goals as goal

pub returns-in_err-found : goal.returns-in_err-found
returns-in_err-found g c = err_by _ _ c.from_residual.ensures.1 c.in_err-found.ensures.reads

pub returns-in_err-prefix : goal.returns-in_err-prefix
returns-in_err-prefix g c = no_memory_by _ c.from_residual-in_err-prefix.ensures.1

pub returns : goal.returns
returns g c = ok _ c.in_ok-found.ensures.reads (rw c.in_ok-prefix.ensures done)
