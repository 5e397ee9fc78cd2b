-- proofs/glue_set/set_glue/Answers.antt
use Rattle.std.proofs.Common.{◌≡◌, w64, to_z, of_z, ap, ◌∙◌}
use Rattle.std.proofs.lemmas.Int.{to_z-of_z}
use Rattle.ntx_pack.specs.GlueSet.{order_for, total_for, glue_set_by}
use Rattle.ntx_pack.proofs.glue_set.set_glue.Goals as goal

pub returns-clause-glue : goal.returns-clause-glue
returns-clause-glue c =
    let s : to_z w64 (of_z w64 c.args.shortfall) ≡ c.args.shortfall = to_z-of_z w64 c.args.shortfall c.ranges.shortfall in
    let o : c.glue_for-glue.result.order ≡ order_for c.args.items.now c.args.shortfall = c.glue_for-glue.ensures.order ∙ ap (order_for c.args.items.now) s in
    let t : c.glue_for-glue.result.total ≡ total_for c.args.items.now c.args.shortfall = c.glue_for-glue.ensures.total ∙ ap (total_for c.args.items.now) s in
    c.set_by.ensures.value ∙ (λ j. glue_set_by (s j) (o j) (t j))
