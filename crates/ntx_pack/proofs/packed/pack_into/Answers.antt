-- proofs/packed/pack_into/Answers.antt
use Rattle.std.proofs.Common.{◌≡◌, ℤ, pos, ◌-ℤ◌, w64, to_z, of_z, rules, ap, ◌∙◌}
use Rattle.std.specs.Int.RustNames.{FitsSigned}
use Rattle.std.proofs.lemmas.Int.{to_z-of_z}
use Rattle.ntx_pack.specs.GlueSet.{glue_set, badness_for}
use Rattle.ntx_pack.specs.Pack.{along}
use Rattle.ntx_pack.proofs.packed.pack_into.Goals as goal

pub returns-clause-value : goal.returns-clause-value
returns-clause-value c =
    let x : ℤ = along c.args.direction c.args.size -ℤ along c.args.direction c.args.natural in
    let f : FitsSigned w64 c.shortfall.result = search rules in
    let fb : FitsSigned w64 c.set_glue-badness.result.1 = search rules in
    let s : to_z w64 (of_z w64 c.shortfall.result) ≡ x = to_z-of_z w64 c.shortfall.result f ∙ c.shortfall.ensures.value in
    let g : c.set_glue-badness.result.0 ≡ glue_set c.args.items.now x = c.set_glue-badness.ensures.glue ∙ ap (glue_set c.args.items.now) s in
    let b : to_z w64 (of_z w64 c.set_glue-badness.result.1) ≡ pos (badness_for c.args.items.now x) = to_z-of_z w64 c.set_glue-badness.result.1 fb ∙ c.set_glue-badness.ensures.badness ∙ ap (λ y. pos (badness_for c.args.items.now y)) s in
    λ j. record { size = c.args.size; glue = g j; badness = b j }
