-- proofs/tests/output/next_size/Answers.antt
use Rattle.std.proofs.Common.{◌<◌, arith}
use Rattle.std.specs.Int.RustNames.{unsigned_abs}
use Rattle.std.proofs.lemmas.Int.{ints}
use Rattle.ntx_item.specs.declared.item.Item.TheVariants.{Glue}
use Rattle.ntx_pack.proofs.OutputLemmas.{small_total}
use Rattle.ntx_pack.proofs.tests.output.next_size.Goals as goal

pub next_size-requires-clause-total : goal.next_size-requires-clause-total
next_size-requires-clause-total g c =
    let total : unsigned_abs c.args.setter.now.total < 1000 = omega (arith, ints) in
    let stretch : unsigned_abs c.args.spec.stretch < 1000 = omega (arith, ints) in
    let shrink : unsigned_abs c.args.spec.shrink < 1000 = omega (arith, ints) in
    small_total c.args.setter.now.glue c.args.setter.now.total (Glue c.args.spec) total stretch shrink
