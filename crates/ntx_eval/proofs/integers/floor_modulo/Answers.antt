use Rattle.std.proofs.Common.{rules}
use Rattle.ntx_eval.proofs.Division.{remainder_less, remainder_same}
use Rattle.ntx_eval.proofs.integers.floor_modulo.Goals as goal

pub returns-then-remainder-ne0 : goal.returns-then-remainder-ne0
returns-then-remainder-ne0 c = let d = remainder_less c.args.a c.args.b in search rules

pub returns-else-b-lt0 : goal.returns-else-b-lt0
returns-else-b-lt0 c = let d = remainder_same c.args.a c.args.b in search rules
