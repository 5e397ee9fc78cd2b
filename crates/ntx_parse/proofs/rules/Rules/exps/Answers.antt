use Rattle.ntx_parse.proofs.reads.Answers.{ok, err_by}
use Rattle.ntx_parse.proofs.rules.Rules.exps.Goals as goal

pub returns-in_err-first : goal.returns-in_err-first
returns-in_err-first g c = err_by _ _ c.from_residual.ensures.1 c.in_err-first.ensures

pub returns : goal.returns
returns g c = ok _ c.in_ok-first.ensures (c.exps_behind.ensures)
