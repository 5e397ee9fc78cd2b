-- What is appended is the bytes of the operation.
use Rattle.std.proofs.Common.{ap, sym, ◌∙◌}
use Rattle.ntx_dvi.specs.Operation.{End}
use Rattle.ntx_dvi.specs.Bytes.{operation_bytes}
use Rattle.ntx_dvi.specs.Writer.{Writer}
use Rattle.ntx_dvi.specs.contracts.dvi.Dvi.{the_view}
use Rattle.ntx_dvi.proofs.Appended.{step-appended}
use Rattle.ntx_dvi.proofs.Writing.{writes_step}
use Rattle.ntx_dvi.proofs.dvi.Dvi.end.Goals as goal

pub returns-clause-steps : goal.returns-clause-steps
returns-clause-steps c =
    let before = the_view c.self.inside in
    let bytes = c.as_slice.ensures.value ∙ c.in_ok-bytes.ensures ∙ ap (λ (w : Writer). operation_bytes w.progress End) (sym c.self.view_is) in
    let written = rw bytes at c.in_ok-append.ensures.steps in
    rw (← c.self.view_is) (step-appended End before c.append.new.self _ written)

pub returns-clause-writes : goal.returns-clause-writes
returns-clause-writes c = writes_step _ _ _ _ (returns-clause-steps c)
