use Rattle.std.proofs.Common.{◌≤◌, pos, subst, sym, w64, to_z, of_z, arith}
use Rattle.std.specs.Prelude.{◌<ℤ◌}
use Rattle.std.specs.Int.RustNames.{unsigned_abs}
use Rattle.std.proofs.lemmas.Int.{ints}
use Rattle.ntx_legal.specs.Places.{item_at}
use Rattle.ntx_breaks.specs.Penalties.{penalty_of}
use Rattle.ntx_breaks.proofs.CostLemmas.{demerits_bound, below_forbidding}
use Rattle.ntx_breaks.proofs.cost.own_demerits.Goals as goal

pub returns-clause-bound : goal.returns-clause-bound
returns-clause-bound c =
    let low : c.penalty_at.result <ℤ pos 10000 =
    subst (λ z. z <ℤ pos 10000) (sym c.penalty_at.ensures) (below_forbidding (penalty_of c.args.params.now (item_at c.args.items.now c.args.to)) c.requires.legal) in
    let shown : to_z w64 (of_z w64 c.penalty_at.result) <ℤ pos 10000 = omega (arith, ints) in
    let bound : unsigned_abs c.demerits.result ≤ 200000000 =
    subst (λ z. unsigned_abs z ≤ 200000000) (sym c.demerits.ensures)
    (demerits_bound (to_z w64 (of_z w64 c.get.result)) (to_z w64 (of_z w64 c.args.b)) (to_z w64 (of_z w64 c.penalty_at.result)) shown) in
    omega (arith, ints)
