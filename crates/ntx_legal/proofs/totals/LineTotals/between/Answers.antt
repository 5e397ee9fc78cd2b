use Rattle.std.proofs.Common.{◌-◌, ◌∙◌, sym, subst, take}
use Rattle.ntx_item.specs.Items.{max_total}
use Rattle.ntx_item.proofs.ItemsLemmas.{parts_are_in_range}
use Rattle.ntx_legal.specs.LineSums.{AreSumsWithin}
use Rattle.ntx_legal.specs.Totals.{sums_minus}
use Rattle.ntx_legal.proofs.SumsLemmas.{sums_within}
use Rattle.ntx_legal.proofs.TotalsLemmas.{sums_between, minus_within}
use Rattle.ntx_legal.proofs.totals.LineTotals.between.Goals as goal

pub minus-requires : goal.minus-requires
minus-requires c =
    let items = c.args.items.now in
    minus_within c.entry.result.sums c.entry-2.result.sums
    (subst (λ e. AreSumsWithin max_total e.sums) (sym c.entry.ensures) (sums_within (take (c.args.to - 1) items) (parts_are_in_range.front items (c.args.to - 1) c.requires.in_range)))
    (subst (λ e. AreSumsWithin max_total e.sums) (sym c.entry-2.ensures) (sums_within (take c.start-start.result items) (parts_are_in_range.front items c.start-start.result c.requires.in_range)))

pub returns : goal.returns
returns c =
    c.minus.ensures
    ∙ (λ j. sums_minus (c.entry.ensures j).sums (c.entry-2.ensures j).sums)
    ∙ sym (sums_between c.args.items.now c.start-start.result (c.args.to - 1) c.start-start.ensures.bound)
    ∙ sym c.start-start.ensures.value
