use Rattle.std.proofs.Common.{sym}
use Rattle.ntx_parse.proofs.reads.Answers.{ok, err_by, done}
use Rattle.ntx_parse.proofs.rules.Rules.table_exp.Goals as goal

pub returns-in_err-fields : goal.returns-in_err-fields
returns-in_err-fields g c = rw (sym c.within.ensures.is) (err_by _ _ c.from_residual.ensures.1 c.in_err-fields.ensures)

pub returns : goal.returns
returns g c = rw (sym c.within.ensures.is) (ok _ c.in_ok-fields.ensures (done))
