use Rattle.std.proofs.Common.{◌∙◌, ap}
use Rattle.std.specs.Prelude.{◌-ℤ◌}
use Rattle.ntx_item.specs.declared.glue.GlueSpec.{GlueSpec}
use Rattle.ntx_lines.proofs.Words.{same_dimension, same_left, parted}
use Rattle.ntx_lines.proofs.above.gap.Goals as goal

pub returns : goal.returns
returns c =
    let a = c.args in
    let base = c.get_glue-baselineskip in
    let width = base.ensures.in_range.width in
    let depth = c.requires.depth in
    let height = c.requires.height in
    same_left c.left_between.result base.result.width a.depth a.height width depth height
    (c.left_between.ensures ∙ parted _ _ _ base.result.width a.depth a.height (same_dimension base.result.width width) (same_dimension a.depth depth) (same_dimension a.height height))
    ∙ ap (λ (g : GlueSpec). (g.width -ℤ a.depth) -ℤ a.height) base.ensures.value
