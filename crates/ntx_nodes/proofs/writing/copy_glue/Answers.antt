use Rattle.std.proofs.lemmas.Int.{to_z-of_z}
use Rattle.std.proofs.Common.{sym, subst, pos, ◌^◌, to_z, of_z, w64, rules}
use Rattle.std.specs.Prelude.{neg_ℤ, ◌≤ℤ◌}
use Rattle.std.specs.Int.RustNames.{FitsSigned}
use Rattle.ntx_nodes.specs.declared.ratio.Ratio.{Ratio}
use Rattle.ntx_nodes.proofs.Fills.{copies_glue}
use Rattle.ntx_nodes.proofs.writing.copy_glue.Goals as goal

pub returns-clause-copies : goal.returns-clause-copies
returns-clause-copies g c =
    let fits_num : FitsSigned w64 c.args.b.glue_num = search rules in
    let fits_den : FitsSigned w64 c.args.b.glue_den = search rules in
    let num = to_z-of_z _ c.args.b.glue_num fits_num in
    let den = to_z-of_z _ c.args.b.glue_den fits_den in
    let ratio : Ratio = record {
      num = to_z w64 (of_z w64 c.args.b.glue_num);
      den = to_z w64 (of_z w64 c.args.b.glue_den);
      above = subst (λ x. neg_ℤ (pos (2 ^ 32)) ≤ℤ x) (sym num) c.requires.num.0;
      below = subst (λ x. x ≤ℤ pos (2 ^ 32)) (sym num) c.requires.num.1;
      positive = subst (λ x. pos 1 ≤ℤ x) (sym den) c.requires.den;
    } in
    copies_glue (g.N.Nodes.heap c.args.nodes.now) (g.N.Nodes.heap c.set_ratio-done.new.self) c.args.n c.args.b ratio c.set_ratio-done.result num den c.set_ratio-done.ensures.step
