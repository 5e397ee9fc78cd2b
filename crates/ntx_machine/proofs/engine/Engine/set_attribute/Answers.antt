use Rattle.std.proofs.Common.{FitsSigned, w64}
use Rattle.std.proofs.lemmas.Int.{to_z-of_z}
use Rattle.ntx_nodes.specs.Steps.{set_current_step}
use Rattle.ntx_nodes.specs.declared.trouble.Phase.TheVariants as phase
use Rattle.ntx_machine.specs.Seen.{state_of}
use Rattle.ntx_machine.proofs.Steps.{ends_phased}
use Rattle.ntx_machine.proofs.engine.Engine.set_attribute.Goals as goal

pub returns-clause-ends : goal.returns-clause-ends
returns-clause-ends g c =
    let h = g.N.Nodes.heap in
    let id_fits : FitsSigned w64 c.args.id = c.ranges.id in
    let value_fits : FitsSigned w64 c.args.v = c.ranges.v in
    let sets = simp to_z-of_z at c.set_current.ensures.step in
    ends_phased phase.Build (set_current_step c.args.id c.args.v) c.set_current.result c.in_phase.result (state_of h c.args.self.now) (h c.set_current.new.self) c.in_phase.ensures sets
