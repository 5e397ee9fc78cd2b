-- What the output appends is what the operation writes.
use Rattle.std.proofs.Common.{FitsSigned, w32, refl}
use Rattle.std.proofs.lemmas.Int.{to_z-of_z}
use Rattle.ntx_dvi.specs.Operation.{Right}
use Rattle.ntx_dvi.specs.Bytes.{operation_bytes}
use Rattle.ntx_dvi.specs.contracts.dvi.Dvi.{the_view}
use Rattle.ntx_dvi.proofs.Appended.{Steps-appended}
use Rattle.ntx_dvi.proofs.Writing.{writes_step}
use Rattle.ntx_dvi.proofs.dvi.Dvi.right.Goals as goal

pub returns-clause-steps : goal.returns-clause-steps
unfolding operation_bytes
returns-clause-steps c =
    let distance_fits : FitsSigned w32 c.args.x = c.ranges.x in
    let appends = simp to_z-of_z at c.append_movement.ensures.steps in
    rw (← c.self.view_is)
    (Steps-appended c.append_movement.result (Right c.args.x) (the_view c.self.inside) c.append_movement.new.output refl appends)

pub returns-clause-writes : goal.returns-clause-writes
returns-clause-writes c = writes_step _ _ _ _ (returns-clause-steps c)
