use Rattle.std.proofs.Common.{arith}
use Rattle.std.proofs.lemmas.Int.{ints}
use Rattle.ntx_tfm.proofs.font.size_or_design.Goals as goal

pub overflow_cast-result : goal.overflow_cast-result
overflow_cast-result c = omega (arith, ints, c.requires.size c.in-Some.size c.in-Some.is)

pub returns-in-Some-clause-least : goal.returns-in-Some-clause-least
returns-in-Some-clause-least c = omega (arith, ints, c.requires.size c.in-Some.size c.in-Some.is)

pub returns-in-Some-clause-most : goal.returns-in-Some-clause-most
returns-in-Some-clause-most c = omega (arith, ints, c.requires.size c.in-Some.size c.in-Some.is)
