-- proofs/setter/GlueSetter/next_size/Answers.antt
use Rattle.std.proofs.Common.{◌≡◌, ◌≤◌, ◌+◌, ℤ, ◌+ℤ◌, ◌-ℤ◌, to_z, of_z, w64, subst, sym, ap, ◌∙◌}
use Rattle.std.specs.Int.RustNames.{unsigned_abs}
use Rattle.ntx_item.specs.declared.item.Item.TheVariants.{Glue}
use Rattle.ntx_pack.specs.Output.{move, widened, set_size}
use Rattle.ntx_pack.proofs.CodeNumbers.{moved_on, with_difference_is, with_difference_le}
use Rattle.ntx_pack.proofs.setter.GlueSetter.next_size.Goals as goal

size_is : (c : goal.After-with_difference) → to_z w64 (of_z w64 c.with_difference.result) ≡ set_size c.args.self.now.glue c.args.self.now.total c.args.spec.now.width (Glue c.args.spec.now)
size_is c =
    let t : ℤ = c.args.self.now.total in
    let after : c.widened.result ≡ widened c.args.self.now.glue (t +ℤ move c.args.self.now.glue (Glue c.args.spec.now)) =
    c.widened.ensures.value ∙ ap (widened c.args.self.now.glue) (moved_on t c.move_of.result _ c.args.self.now.bounded c.move_of.ensures c.requires.total) in
    with_difference_is c.args.spec.now.width c.widened.result c.widened-before.result c.with_difference.result c.requires.width c.widened.ensures.capped c.widened-before.ensures.capped c.with_difference.ensures.value
    ∙ (λ j. c.args.spec.now.width +ℤ (after j -ℤ c.widened-before.ensures.value j))

pub returns-clause-size : goal.returns-clause-size
returns-clause-size c = size_is c

pub returns-clause-bounded : goal.returns-clause-bounded
returns-clause-bounded c =
    let w : ℤ = c.args.spec.now.width in
    let a : ℤ = c.widened.result in
    let b : ℤ = c.widened-before.result in
    subst (λ r. unsigned_abs r ≤ unsigned_abs w + 2000000000)
    (sym (with_difference_is w a b c.with_difference.result c.requires.width c.widened.ensures.capped c.widened-before.ensures.capped c.with_difference.ensures.value))
    (with_difference_le w a b c.widened.ensures.capped c.widened-before.ensures.capped)
