use Rattle.std.proofs.Common.{rules}
use Rattle.ntx_eval.proofs.Division.{quotient_less, floor_same}
use Rattle.ntx_eval.proofs.integers.floor_divide.Goals as goal

pub returns-then-wrapping_rem_euclid-ne0 : goal.returns-then-wrapping_rem_euclid-ne0
returns-then-wrapping_rem_euclid-ne0 c = let d = quotient_less c.args.a c.args.b c.ranges.a in search rules

pub returns-else-b-lt0 : goal.returns-else-b-lt0
returns-else-b-lt0 c = let d = floor_same c.args.a c.args.b in search rules
