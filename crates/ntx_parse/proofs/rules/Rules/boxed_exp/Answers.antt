use Rattle.ntx_parse.proofs.reads.Answers.{no_memory_by, ends_by}
use Rattle.ntx_parse.proofs.rules.Rules.boxed_exp.Goals as goal

pub returns-in_err-exp : goal.returns-in_err-exp
returns-in_err-exp g c = ends_by _ c.from_residual.ensures.1 (λ h. h) c.in_err-exp.ensures

pub returns-in_err-new : goal.returns-in_err-new
returns-in_err-new g c = no_memory_by _ c.from_residual-in_err-new.ensures.1

pub returns : goal.returns
returns g c = rw c.in_ok-new.ensures c.in_ok-exp.ensures
