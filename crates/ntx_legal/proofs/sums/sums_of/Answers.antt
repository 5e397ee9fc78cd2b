use Rattle.std.proofs.Common.{◌+◌, get_or, subst, sym, ap, ◌∙◌, take}
use Rattle.ntx_item.specs.Items.{max_total}
use Rattle.ntx_item.proofs.ItemsLemmas.{parts_are_in_range}
use Rattle.ntx_legal.specs.declared.sums.Sums.{Sums}
use Rattle.ntx_legal.specs.LineSums.{sums_with, AreSumsWithin}
use Rattle.ntx_legal.proofs.SumsLemmas.{sums_within, sums_more, past_end}
use Rattle.ntx_legal.proofs.sums.sums_of.Goals as goal

pub with-sums-requires : goal.with-sums-requires
with-sums-requires c =
    let items = c.args.items.now in let i = c.loop-item.item-index in
    subst (λ (s : Sums). AreSumsWithin max_total (sums_with s (get_or items i past_end))) (sym c.loop-item.invariant)
    (subst (AreSumsWithin max_total) (sums_more items i past_end c.loop-item-test.true)
    (sums_within (take (i + 1) items) (parts_are_in_range.front items (i + 1) c.requires)))

pub loop-item-preserved : goal.loop-item-preserved
loop-item-preserved c =
    let items = c.args.items.now in let i = c.loop-item.item-index in
    c.with-sums.ensures ∙ ap (λ s. sums_with s (get_or items i past_end)) c.loop-item.invariant ∙ sym (sums_more items i past_end c.loop-item-test.true)

pub returns-clause-in_range : goal.returns-clause-in_range
returns-clause-in_range c =
    subst (AreSumsWithin max_total) (sym c.loop-item.invariant) (sums_within (take c.loop-item.item-index c.args.items.now) (parts_are_in_range.front c.args.items.now c.loop-item.item-index c.requires))
