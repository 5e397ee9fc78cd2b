use Rattle.std.proofs.Common.{◌≡◌, ℤ, Option, Some, length, slice_get, FitsSigned, w64, refl, ap, ◌∙◌, rules, arith}
use Rattle.std.proofs.lemmas.Int.{to_z-of_z}
use Rattle.std.proofs.lemmas.Option.{slice_get_read}
use Rattle.ntx_item.specs.declared.glue.GlueSpec.{GlueSpec}
use Rattle.ntx_tfm.specs.Font.{FontTables, parameter_at}
use Rattle.ntx_machine.specs.Nodes.{space_in}
use Rattle.ntx_machine.proofs.fields.space_in.Goals as goal

space_of : (font : FontTables) (there : Option FontTables) (width stretch shrink : ℤ) → there ≡ Some font → width ≡ parameter_at font 2 → stretch ≡ parameter_at font 3 → shrink ≡ parameter_at font 4
    → ◌≡◌ {A = GlueSpec} (record { width = width; stretch = stretch; stretch_order = 0; shrink = shrink; shrink_order = 0 }) (space_in there)
space_of font there width stretch shrink is w p m = rw (is, w, p, m) refl

pub returns-in-Some-clause-space : goal.returns-in-Some-clause-space
returns-in-Some-clause-space c =
    let fonts = c.args.fonts.now in
    let same : c.args.font ≡ c.from.result = omega arith in
    let there = slice_get_read fonts (length fonts) c.from.result c.in-Some.font.now refl c.in-Some.ensures.lookup.3.0 c.in-Some.ensures.lookup.1 in
    let width_fits : FitsSigned w64 c.param.result = search rules in
    let stretch_fits : FitsSigned w64 c.param-in-Some.result = search rules in
    let shrink_fits : FitsSigned w64 c.param-in-Some-2.result = search rules in
    space_of c.in-Some.font.now (slice_get fonts c.args.font) _ _ _ (ap (slice_get fonts) same ∙ there)
    (to_z-of_z w64 c.param.result width_fits ∙ c.param.ensures.value)
    (to_z-of_z w64 c.param-in-Some.result stretch_fits ∙ c.param-in-Some.ensures.value)
    (to_z-of_z w64 c.param-in-Some-2.result shrink_fits ∙ c.param-in-Some-2.ensures.value)
