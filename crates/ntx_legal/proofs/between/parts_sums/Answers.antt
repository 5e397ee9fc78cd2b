use Rattle.std.proofs.Common.{ℕ, List, ◌≡◌, ◌*◌, ◌^◌, ◌+◌, ◌∙◌, sym, ap, subst, w64, rules, FitsSigned, arith}
use Rattle.std.proofs.lemmas.Int.{to_z-of_z}
use Rattle.ntx_num.specs.Dimension.{max_dimension}
use Rattle.ntx_item.proofs.SumLemmas.{absolute_sum}
use Rattle.ntx_item.specs.Items.{AreItemsInRange, max_total}
use Rattle.ntx_item.specs.declared.item.Item.{Item}
use Rattle.ntx_item.specs.declared.item.Item.TheVariants.{Glue}
use Rattle.ntx_legal.specs.declared.sums.Sums.{Sums}
use Rattle.ntx_legal.proofs.SumsLemmas.{sums_within}
use Rattle.ntx_legal.specs.Places.{item_at}
use Rattle.ntx_legal.specs.Kept.{kept_items}
use Rattle.ntx_legal.specs.LineSums.{sums_of, sums_plus, sums_wider, AreSumsWithin}
use Rattle.ntx_legal.proofs.PartLemmas.{kept_in_range, plus_within, wide_within, wider_within, parts_sums}
use Rattle.ntx_legal.proofs.between.parts_sums.Goals as goal

-- the sums of the items that count are bounded
kept_within : (items : List Item) (from to : ℕ) (kept : Sums) → AreItemsInRange items → kept ≡ sums_of (kept_items items from to) → AreSumsWithin max_total kept
kept_within items from to kept r e = subst (AreSumsWithin max_total) (sym e) (sums_within (kept_items items from to) (kept_in_range items from to r))

-- what the skips and the items that count come to is bounded
both_within : (items : List Item) (from to : ℕ) (skips kept : Sums) → AreSumsWithin (2 * max_dimension) skips → AreItemsInRange items → kept ≡ sums_of (kept_items items from to) →
    AreSumsWithin (2 * max_dimension + max_total) (sums_plus skips kept)
both_within items from to skips kept h r e = plus_within (2 * max_dimension) max_total skips kept h (kept_within items from to kept r e)

pub plus-requires : goal.plus-requires
plus-requires c =
    wider_within (2 * max_dimension + max_total) (2 ^ 62) (omega arith) (sums_plus c.background.result c.args.kept)
    (both_within c.args.items.now c.args.from c.args.to c.background.result c.args.kept c.background.ensures.bound c.requires.in_range c.requires.kept)

pub wider_by-requires : goal.wider_by-requires
wider_by-requires c =
    let sums : AreSumsWithin (2 * max_dimension + max_total) c.plus.result =
    subst (AreSumsWithin (2 * max_dimension + max_total)) (sym c.plus.ensures)
    (both_within c.args.items.now c.args.from c.args.to c.background.result c.args.kept c.background.ensures.bound c.requires.in_range c.requires.kept) in
    let width = sums.width in
    let shown = c.shown_width.ensures.bound in
    let both = absolute_sum c.plus.result.width c.shown_width.result in
    grind (arith, to_z-of_z)

pub returns-clause-bound : goal.returns-clause-bound
returns-clause-bound c =
    let fits : FitsSigned w64 c.shown_width.result = search rules in
    let sums : AreSumsWithin (2 * max_dimension + max_total) c.plus.result =
    subst (AreSumsWithin (2 * max_dimension + max_total)) (sym c.plus.ensures)
    (both_within c.args.items.now c.args.from c.args.to c.background.result c.args.kept c.background.ensures.bound c.requires.in_range c.requires.kept) in
    subst (AreSumsWithin (2 ^ 52)) (sym (c.wider_by.ensures ∙ ap (sums_wider c.plus.result) (to_z-of_z w64 c.shown_width.result fits)))
    (wider_within (2 * max_dimension + max_total + 2 * max_total) (2 ^ 52) (omega arith) (sums_wider c.plus.result c.shown_width.result)
    (wide_within (2 * max_dimension + max_total) (2 * max_total) c.plus.result c.shown_width.result sums c.shown_width.ensures.bound))

pub returns-clause-value : goal.returns-clause-value
returns-clause-value c =
    let fits : FitsSigned w64 c.shown_width.result = search rules in
    c.wider_by.ensures
    ∙ ap (sums_wider c.plus.result) (to_z-of_z w64 c.shown_width.result fits)
    ∙ (λ j. sums_wider ((c.plus.ensures ∙ (λ k. sums_plus (c.background.ensures.value k) (c.requires.kept k))) j) (c.shown_width.ensures.value j))
    ∙ sym (parts_sums (Glue c.args.params.now.leftskip) (Glue c.args.params.now.rightskip) (item_at c.args.items.now c.args.from) (item_at c.args.items.now c.args.to) (kept_items c.args.items.now c.args.from c.args.to))
