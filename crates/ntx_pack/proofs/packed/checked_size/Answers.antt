-- proofs/packed/checked_size/Answers.antt
use Rattle.std.proofs.Common.{arith}
use Rattle.std.proofs.lemmas.Int.{ints}
use Rattle.ntx_pack.proofs.packed.checked_size.Goals as goal

pub returns-then-is_dimension-3-clause-measured : goal.returns-then-is_dimension-3-clause-measured
returns-then-is_dimension-3-clause-measured c = record { width = grind (arith, ints); height = grind (arith, ints); depth = grind (arith, ints) }
