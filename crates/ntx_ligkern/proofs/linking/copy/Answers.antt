use Rattle.ntx_nodes.specs.Steps.{copy_one_step}
use Rattle.ntx_ligkern.proofs.StepEnds.{step_ends}
use Rattle.ntx_ligkern.proofs.linking.copy.Goals as goal

pub returns : goal.returns
returns g c =
    let h = g.N.Nodes.heap in
    step_ends c.copy_one.result (h c.args.nodes.now) (h c.copy_one.new.self) (copy_one_step c.args.n (h c.args.nodes.now)) c.copy_one.ensures.step
