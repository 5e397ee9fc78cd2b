-- proofs/vertical/size_of_all/Answers.antt
use Rattle.std.proofs.Common.{◌≤◌, ◌^◌, ◌+ℤ◌, get_or, subst, sym, ap, ◌∙◌}
use Rattle.std.specs.Int.RustNames.{unsigned_abs}
use Rattle.ntx_num.specs.declared.size.Size.{Size}
use Rattle.ntx_pack.specs.Vertical.{stacked}
use Rattle.ntx_view.proofs.Sizes.{past_end}
use Rattle.ntx_pack.proofs.StackLemmas.{vlist_size-more, stack_le}
use Rattle.ntx_pack.proofs.vertical.size_of_all.Goals as goal

pub stacked-size-requires-clause-stacked : goal.stacked-size-requires-clause-stacked
stacked-size-requires-clause-stacked c =
    subst (λ (s : Size). unsigned_abs (s.h +ℤ s.d) ≤ 2 ^ 52) (sym c.loop-item.invariant) (stack_le c.args.items.now c.loop-item.item-index c.requires.few c.requires.measured)

pub loop-item-preserved : goal.loop-item-preserved
loop-item-preserved c =
    c.stacked-size.ensures ∙ ap (λ s. stacked s (get_or c.args.items.now c.loop-item.item-index past_end)) c.loop-item.invariant ∙ sym (vlist_size-more c.args.items.now c.loop-item.item-index past_end c.loop-item-test.true)
