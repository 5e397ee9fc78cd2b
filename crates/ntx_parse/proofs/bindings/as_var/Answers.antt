use Rattle.std.proofs.Common.{refl}
use Rattle.ntx_parse.proofs.reads.Answers.{done, stops_at_once}
use Rattle.ntx_parse.proofs.bindings.as_var.Goals as goal

pub returns-in-Some : goal.returns-in-Some
returns-in-Some c = rw c.in-Some.is done

pub returns-in-None : goal.returns-in-None
returns-in-None c = rw (c.in-None.is, c.fault.ensures) (stops_at_once _ refl refl)
