-- Each test says that its number is a dimension.
use Rattle.std.proofs.Common.{◌≡◌, ◌≤◌, ◌^◌, ℤ, to_z, of_z, w64, sym, ◌∙◌, subst, arith}
use Rattle.std.specs.Int.RustNames.{unsigned_abs}
use Rattle.std.proofs.lemmas.Int.{ints}
use Rattle.ntx_num.specs.Dimension.{IsDimension}
use Rattle.ntx_ship.proofs.Marks.{dimension_is}
use Rattle.ntx_ship.proofs.mark.may_stand.Goals as goal

pub returns-clause-h : goal.returns-clause-h
returns-clause-h c = λ stands.
    let near : unsigned_abs c.args.here.h ≤ 2 ^ 61 = c.requires.place.h in
    let same : to_z w64 (of_z w64 c.args.here.h) ≡ c.args.here.h = omega (arith, ints, near) in
    subst (λ (x : ℤ). IsDimension x) same (dimension_is _ (sym c.is_dimension.ensures.value ∙ c.if-not-is_dimension.false))

pub returns-clause-v : goal.returns-clause-v
returns-clause-v c = λ stands.
    let near : unsigned_abs c.args.here.v ≤ 2 ^ 61 = c.requires.place.v in
    let same : to_z w64 (of_z w64 c.args.here.v) ≡ c.args.here.v = omega (arith, ints, near) in
    subst (λ (x : ℤ). IsDimension x) same (dimension_is _ (sym c.is_dimension-2.ensures.value ∙ c.if-not-is_dimension-2.false))
