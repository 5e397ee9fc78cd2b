use Rattle.std.proofs.Common.{◌≡◌, ℤ, to_z, of_z, w64, sym, subst, arith}
use Rattle.std.proofs.lemmas.Int.{ints}
use Rattle.ntx_nodes.specs.Writing.{AreMakable}
use Rattle.ntx_lines.specs.Making.{penalty_fields}
use Rattle.ntx_lines.proofs.Makings.{penalty_makable}
use Rattle.ntx_lines.proofs.above.Above.with_penalty.Goals as goal

pub make_at_end-requires : goal.make_at_end-requires
make_at_end-requires g c =
    let heap = g.N.Nodes.heap c.args.nodes.now in
    let p = c.args.p in
    let same : to_z w64 (of_z w64 p) ≡ p = omega (arith, ints) in
    subst (AreMakable heap) (sym c.penalty_fields.ensures) (subst (λ (q : ℤ). AreMakable heap (penalty_fields q)) (sym same) (penalty_makable heap p c.requires))
