use Rattle.std.proofs.Common.{rules, unsigned_abs, w64, ap, ◌∙◌, refl, arith}
use Rattle.std.proofs.lemmas.Int.{to_z-of_z, ints}
use Rattle.ntx_num.proofs.RatioLemmas.{product_is, near_at}
use Rattle.ntx_num.proofs.ratio.round_ratio.Goals as goal

pub returns-clause-value : goal.returns-clause-value
returns-clause-value c =
    let product = product_is c.args.num c.args.x c.from.result c.from-2.result c.ranges.num c.ranges.x c.requires.num c.requires.x c.from.ensures c.from-2.ensures in
    let den = to_z-of_z w64 c.args.den c.ranges.den in
    to_z-of_z w64 c.part.result (search rules) ∙ c.part.ensures.value ∙ rw (product, den) refl

pub returns-clause-near : goal.returns-clause-near
returns-clause-near c =
    let product = product_is c.args.num c.args.x c.from.result c.from-2.result c.ranges.num c.ranges.x c.requires.num c.requires.x c.from.ensures c.from-2.ensures in
    let den = to_z-of_z w64 c.args.den c.ranges.den in
    near_at _ _ c.args.den _ c.part.result _ (omega (arith, ints)) c.requires.den product (ap unsigned_abs den) (to_z-of_z w64 c.part.result (search rules)) c.part.ensures.near
