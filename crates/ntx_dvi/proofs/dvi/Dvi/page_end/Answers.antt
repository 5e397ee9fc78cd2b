use Rattle.std.proofs.Common.{rules, FitsSigned, w32, arith}
use Rattle.std.proofs.lemmas.Int.{to_z-of_z}
use Rattle.ntx_dvi.specs.Bytes.{operation_bytes}
use Rattle.ntx_dvi.specs.Writer.{step}
use Rattle.ntx_dvi.proofs.Writing.{writes_step}
use Rattle.ntx_dvi.proofs.dvi.Dvi.page_end.Goals as goal

pub returns-clause-steps : goal.returns-clause-steps
unfolding operation_bytes step
returns-clause-steps c =
    let total_fits : FitsSigned w32 c.max-self-inside.result = search rules in
    let width_fits : FitsSigned w32 c.max-self-inside-2.result = search rules in
    grind (arith, to_z-of_z)

pub returns-clause-writes : goal.returns-clause-writes
returns-clause-writes c = writes_step _ _ _ _ (returns-clause-steps c)
