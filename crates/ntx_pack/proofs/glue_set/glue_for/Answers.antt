-- proofs/glue_set/glue_for/Answers.antt
use Rattle.std.proofs.Common.{◌≡◌, w64, ap, ◌∙◌}
use Rattle.std.proofs.lemmas.Int.{to_z-of_z}
use Rattle.ntx_pack.specs.Totals.{highest_order}
use Rattle.ntx_item.specs.Sums.{change_for, glue_total}
use Rattle.ntx_pack.specs.GlueSet.{order_for}
use Rattle.ntx_pack.proofs.glue_set.glue_for.Goals as goal

change_is : (c : goal.After-available_glue) → c.for_shortfall.result ≡ change_for c.args.shortfall
change_is c = c.for_shortfall.ensures ∙ ap change_for (to_z-of_z w64 c.args.shortfall c.ranges.shortfall)

order_is : (c : goal.After-available_glue) → c.available_glue.result.order ≡ order_for c.args.items.now c.args.shortfall
order_is c = c.available_glue.ensures.order ∙ ap (λ way. highest_order way c.args.items.now) (change_is c)

pub returns-clause-order : goal.returns-clause-order
returns-clause-order c = order_is c

pub returns-clause-total : goal.returns-clause-total
returns-clause-total c = c.available_glue.ensures.total ∙ (λ j. glue_total (change_is c j) (order_is c j) c.args.items.now)
