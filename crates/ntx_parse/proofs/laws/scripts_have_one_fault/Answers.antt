use Rattle.ntx_parse.proofs.faults.OneFault.{one_fault}
use Rattle.ntx_parse.proofs.laws.scripts_have_one_fault.Goals as goal

pub returns : goal.returns
returns c = one_fault
