use Rattle.ntx_nodes.proofs.Fuel.{fuel_enough}
use Rattle.ntx_nodes.proofs.laws.fuel_is_enough.Goals as goal

pub returns : goal.returns
returns c = fuel_enough
