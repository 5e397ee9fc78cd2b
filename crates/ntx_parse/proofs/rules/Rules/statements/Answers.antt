use Rattle.ntx_parse.proofs.reads.Answers.{ok, err_by, done}
use Rattle.ntx_parse.proofs.rules.Rules.statements.Goals as goal

pub returns-in_err-stats : goal.returns-in_err-stats
returns-in_err-stats g c = err_by _ _ c.from_residual.ensures.1 c.in_err-stats.ensures

pub returns-in_err-last : goal.returns-in_err-last
returns-in_err-last g c = ok _ c.in_ok-stats.ensures (err_by _ _ c.from_residual-in_err-last.ensures.1 c.in_err-last.ensures)

pub returns : goal.returns
returns g c = ok _ c.in_ok-stats.ensures (ok _ c.in_ok-last.ensures (done))
