use Rattle.std.proofs.Common.{◌≤◌, ◌*◌, rules}
use Rattle.ntx_tfm.specs.Scaling.{magnitude, divisor_of, reduced}
use Rattle.ntx_tfm.proofs.ScalingLemmas.{magnitude_below}
use Rattle.ntx_tfm.proofs.scaling.magnitude.Goals as goal

pub returns-clause-below : goal.returns-clause-below
unfolding magnitude
returns-clause-below c =
    let below : magnitude c.args.size c.args.word ≤ 16 * divisor_of c.args.size * reduced c.args.size = magnitude_below c.args.size c.args.word (search rules) (search rules) (search rules) in
    rw (c.from-4.ensures, c.from-3.ensures, c.from-2.ensures, c.from.ensures, c.from-size.ensures, c.divisor-divisor.ensures.value) below
