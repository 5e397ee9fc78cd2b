use Rattle.ntx_nodes.proofs.Passes.{step_lawful, steps_lawful}
use Rattle.ntx_nodes.proofs.laws.steps_keep_heaps_lawful.Goals as goal

pub returns : goal.returns
returns c = record { one = step_lawful; all = steps_lawful }
