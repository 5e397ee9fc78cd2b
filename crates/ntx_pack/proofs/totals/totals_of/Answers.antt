-- proofs/totals/totals_of/Answers.antt
use Rattle.std.proofs.Common.{◌≤◌, ◌+ℤ◌, get_or, subst, sym, ap, ◌∙◌, take}
use Rattle.std.specs.Int.RustNames.{unsigned_abs}
use Rattle.ntx_item.specs.Items.{max_total}
use Rattle.ntx_pack.specs.declared.totals.GlueTotals.{GlueTotals}
use Rattle.ntx_pack.specs.Totals.{totals_with, AreTotalsInRange}
use Rattle.ntx_item.specs.Sums.{amount_in}
use Rattle.ntx_view.proofs.Sizes.{past_end}
use Rattle.ntx_item.proofs.ItemsLemmas.{parts_are_in_range}
use Rattle.ntx_pack.proofs.TotalLemmas.{total_more, totals_of-more, totals_in_range}
use Rattle.ntx_pack.proofs.totals.totals_of.Goals as goal

pub with-totals-requires-clause-normal : goal.with-totals-requires-clause-normal
with-totals-requires-clause-normal c =
    subst (λ (t : GlueTotals). unsigned_abs (t.normal +ℤ amount_in c.args.change 0 (get_or c.args.items.now c.loop-item.item-index past_end)) ≤ max_total) (sym c.loop-item.invariant) (total_more c.args.change 0 c.args.items.now c.loop-item.item-index past_end c.loop-item-test.true c.requires)

pub with-totals-requires-clause-fil : goal.with-totals-requires-clause-fil
with-totals-requires-clause-fil c =
    subst (λ (t : GlueTotals). unsigned_abs (t.fil +ℤ amount_in c.args.change 1 (get_or c.args.items.now c.loop-item.item-index past_end)) ≤ max_total) (sym c.loop-item.invariant) (total_more c.args.change 1 c.args.items.now c.loop-item.item-index past_end c.loop-item-test.true c.requires)

pub with-totals-requires-clause-fill : goal.with-totals-requires-clause-fill
with-totals-requires-clause-fill c =
    subst (λ (t : GlueTotals). unsigned_abs (t.fill +ℤ amount_in c.args.change 2 (get_or c.args.items.now c.loop-item.item-index past_end)) ≤ max_total) (sym c.loop-item.invariant) (total_more c.args.change 2 c.args.items.now c.loop-item.item-index past_end c.loop-item-test.true c.requires)

pub with-totals-requires-clause-filll : goal.with-totals-requires-clause-filll
with-totals-requires-clause-filll c =
    subst (λ (t : GlueTotals). unsigned_abs (t.filll +ℤ amount_in c.args.change 3 (get_or c.args.items.now c.loop-item.item-index past_end)) ≤ max_total) (sym c.loop-item.invariant) (total_more c.args.change 3 c.args.items.now c.loop-item.item-index past_end c.loop-item-test.true c.requires)

pub loop-item-preserved : goal.loop-item-preserved
loop-item-preserved c =
    c.with-totals.ensures ∙ ap (λ t. totals_with c.args.change t (get_or c.args.items.now c.loop-item.item-index past_end)) c.loop-item.invariant ∙ sym (totals_of-more c.args.change c.args.items.now c.loop-item.item-index past_end c.loop-item-test.true)

pub returns-clause-in_range : goal.returns-clause-in_range
returns-clause-in_range c = subst AreTotalsInRange (sym c.loop-item.invariant) (totals_in_range c.args.change (take c.loop-item.item-index c.args.items.now) (parts_are_in_range.front c.args.items.now c.loop-item.item-index c.requires))
