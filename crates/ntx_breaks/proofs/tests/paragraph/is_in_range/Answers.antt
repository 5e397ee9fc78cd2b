use Rattle.std.proofs.Common.{refl, subst, rules}
use Rattle.std.specs.List.{All}
use Rattle.std.proofs.lemmas.List.{take_all}
use Rattle.std.proofs.lemmas.List.Elements.{All-more}
use Rattle.ntx_legal.proofs.SmallItems.{IsSmall, small_in_range}
use Rattle.ntx_legal.proofs.SumsLemmas.{past_end}
use Rattle.ntx_breaks.proofs.tests.paragraph.is_in_range.Goals as goal

pub loop-item-preserved : goal.loop-item-preserved
loop-item-preserved c =
    let small = c.if-not-is_small.ensures in
    All-more IsSmall c.args.items.now c.loop-item.item-index past_end c.loop-item-test.true c.loop-item.invariant
    (record { in_range = small.in_range refl; width = small.width refl; stretch = small.stretch refl; shrink = small.shrink refl })

pub returns : goal.returns
returns c = λ _. small_in_range c.args.items.now (search rules) (subst (All IsSmall) (take_all c.loop-item.item-index c.args.items.now (search rules)) c.loop-item.invariant)
