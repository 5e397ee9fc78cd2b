use Rattle.std.proofs.Common.{rules, append_assoc}
use Rattle.ntx_run.proofs.stop.script_line.Goals as goal

pub returns : goal.returns
returns c = simp append_assoc (search rules)
