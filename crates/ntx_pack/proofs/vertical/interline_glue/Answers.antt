-- proofs/vertical/interline_glue/Answers.antt
use Rattle.std.proofs.Common.{◌≡◌, ◌≤◌, ◌*◌, ℤ, ◌-ℤ◌, to_z, of_z, w64, subst, sym, ◌∙◌, ap, arith}
use Rattle.std.specs.Prelude.{int_lt, unsigned_abs}
use Rattle.ntx_num.specs.Dimension.{max_dimension}
use Rattle.std.proofs.lemmas.Int.{ints}
use Rattle.ntx_item.specs.declared.glue.GlueSpec.{GlueSpec}
use Rattle.ntx_pack.proofs.CodeNumbers.{interline_then, interline_else}
use Rattle.ntx_pack.proofs.vertical.interline_glue.Goals as goal

pub returns-then-gap-get-clause-value : goal.returns-then-gap-get-clause-value
returns-then-gap-get-clause-value c =
    let base = c.get_glue-baselineskip in
    let gap : to_z w64 (of_z w64 c.gap-gap.result) ≡ (base.result.width -ℤ c.args.depth) -ℤ c.args.height = omega (arith, ints) in
    let limit : to_z w64 (of_z w64 c.get.result) ≡ c.get.result = omega (arith, ints) in
    let below = sym (λ j. int_lt (gap j) (limit j)) ∙ c.if-gap-get.true in
    interline_then c.args.params.now c.args.depth c.args.height c.get_glue.result
    (sym (λ j. int_lt (((base.ensures.value j).width -ℤ c.args.depth) -ℤ c.args.height) (c.get.ensures.value j)) ∙ below) c.get_glue.ensures.value

pub returns-else-gap-get-clause-value : goal.returns-else-gap-get-clause-value
returns-else-gap-get-clause-value c =
    let base = c.get_glue-baselineskip in
    let gap : to_z w64 (of_z w64 c.gap-gap.result) ≡ (base.result.width -ℤ c.args.depth) -ℤ c.args.height = omega (arith, ints) in
    let limit : to_z w64 (of_z w64 c.get.result) ≡ c.get.result = omega (arith, ints) in
    let above = sym (λ j. int_lt (gap j) (limit j)) ∙ c.if-gap-get.false in
    interline_else c.args.params.now c.args.depth c.args.height c.with_width.result
    (sym (λ j. int_lt (((base.ensures.value j).width -ℤ c.args.depth) -ℤ c.args.height) (c.get.ensures.value j)) ∙ above)
    (c.with_width.ensures ∙ ap (λ (w : ℤ). record base.result { width = w }) gap ∙ ap (λ (g : GlueSpec). record g { width = (g.width -ℤ c.args.depth) -ℤ c.args.height }) base.ensures.value)

pub returns-else-gap-get-clause-width : goal.returns-else-gap-get-clause-width
returns-else-gap-get-clause-width c = subst (λ (g : GlueSpec). unsigned_abs g.width ≤ 3 * max_dimension) (sym c.with_width.ensures) (omega (arith, ints))
