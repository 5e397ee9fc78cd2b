-- proofs/natural/size_of_all/Answers.antt
use Rattle.std.proofs.Common.{◌≤◌, ◌+ℤ◌, get_or, subst, sym, ap, ◌∙◌}
use Rattle.std.specs.Int.RustNames.{unsigned_abs}
use Rattle.ntx_num.specs.declared.size.Size.{Size}
use Rattle.ntx_item.specs.Items.{max_total}
use Rattle.ntx_item.specs.Sums.{natural_width}
use Rattle.ntx_view.specs.Natural.{size_with}
use Rattle.ntx_view.proofs.Sizes.{hlist_size-more, width_more, past_end}
use Rattle.ntx_view.proofs.natural.size_of_all.Goals as goal

pub with_item-size-requires-clause-width : goal.with_item-size-requires-clause-width
with_item-size-requires-clause-width c =
    subst (λ (s : Size). unsigned_abs (s.w +ℤ natural_width (get_or c.args.items.now c.loop-item.item-index past_end)) ≤ max_total) (sym c.loop-item.invariant) (width_more c.args.items.now c.loop-item.item-index past_end c.loop-item-test.true c.requires.in_range)

pub loop-item-preserved : goal.loop-item-preserved
loop-item-preserved c =
    c.with_item-size.ensures ∙ ap (λ s. size_with s (get_or c.args.items.now c.loop-item.item-index past_end)) c.loop-item.invariant ∙ sym (hlist_size-more c.args.items.now c.loop-item.item-index past_end c.loop-item-test.true)
