use Rattle.std.proofs.Common.{◌+◌, get_or, subst, sym, ap, take}
use Rattle.ntx_item.specs.Items.{max_total}
use Rattle.ntx_item.proofs.ItemsLemmas.{parts_are_in_range}
use Rattle.ntx_legal.specs.declared.sums.Sums.{Sums}
use Rattle.ntx_legal.specs.LineSums.{sums_with, AreSumsWithin}
use Rattle.ntx_legal.proofs.SumsLemmas.{sums_within, sums_more, past_end}
use Rattle.ntx_legal.proofs.totals.next_entry.Goals as goal

pub with-sums-requires : goal.with-sums-requires
with-sums-requires c =
    let items = c.args.items.now in let i = c.args.i in
    subst (λ (s : Sums). AreSumsWithin max_total (sums_with s (get_or items i past_end))) (ap (λ e. e.sums) (sym c.requires.entry))
    (subst (AreSumsWithin max_total) (sums_more items i past_end c.requires.i) (sums_within (take (i + 1) items) (parts_are_in_range.front items (i + 1) c.requires.in_range)))
