-- GlueTotals of lists of items, and how large they are.
use Rattle.std.proofs.Common.{◌≡◌, ℕ, ◌+◌, ◌≤◌, ◌<◌, ℤ, pos, ◌+ℤ◌, List, Bool, true, false, cond, length, take, get_or, subst, arith}
use Rattle.std.specs.Prelude.{nat_eq}
use Rattle.std.specs.List.{sum_by}
use Rattle.std.specs.Int.RustNames.{unsigned_abs}
use Rattle.std.proofs.lemmas.List.Sums.{fold_more, sum_by-take-le}
use Rattle.ntx_item.proofs.SumLemmas.{sums_are_bounded}
use Rattle.ntx_item.specs.declared.item.Item.{Item}
use Rattle.ntx_item.specs.declared.item.Item.TheVariants.{Glue}
use Rattle.ntx_item.specs.Items.{absolute_stretch, absolute_shrink, AreItemsInRange, max_total}
use Rattle.ntx_item.specs.Sums.{signed_sum}
use Rattle.ntx_item.specs.declared.glue_change.GlueChange.{GlueChange}
use Rattle.ntx_item.specs.declared.glue_change.GlueChange.TheVariants.{Stretch, Shrink}
use Rattle.ntx_pack.specs.Totals.{totals_of, totals_with, AreTotalsInRange}
use Rattle.ntx_item.specs.Sums.{amount_in, glue_total}

-- how far an item can change, without its sign
abbrev pub absolute_amount : GlueChange → Item → ℕ
absolute_amount Stretch item = absolute_stretch item
absolute_amount Shrink item = absolute_shrink item

chosen_le : (b : Bool) (x : ℤ) → unsigned_abs (cond b x (pos 0)) ≤ unsigned_abs x
chosen_le true x = omega arith
chosen_le false x = omega arith

pub amount_le : (change : GlueChange) (order : ℕ) (item : Item) → unsigned_abs (amount_in change order item) ≤ absolute_amount change item
amount_le Stretch order (Glue spec) = chosen_le (nat_eq spec.stretch_order order) spec.stretch
amount_le Shrink order (Glue spec) = chosen_le (nat_eq spec.shrink_order order) spec.shrink
amount_le Stretch order _ = omega arith
amount_le Shrink order _ = omega arith

pub amounts_in_range : (change : GlueChange) (items : List Item) → AreItemsInRange items → sum_by (absolute_amount change) items ≤ max_total
amounts_in_range Stretch items r = r.stretches
amounts_in_range Shrink items r = r.shrinks

-- a sum whose terms are no greater than what items can change stays in range
pub sum_in_range : (f : Item → ℤ) (change : GlueChange) → ((item : Item) → unsigned_abs (f item) ≤ absolute_amount change item) → (items : List Item) → AreItemsInRange items → unsigned_abs (signed_sum f items) ≤ max_total
sum_in_range f change h items r =
    let s : unsigned_abs (signed_sum f items) ≤ sum_by (absolute_amount change) items = sums_are_bounded f (absolute_amount change) h items in
    let a : sum_by (absolute_amount change) items ≤ max_total = amounts_in_range change items r in
    omega arith

pub sum_more : (f : Item → ℤ) (items : List Item) (i : ℕ) (d : Item) → i < length items → signed_sum f (take (i + 1) items) ≡ signed_sum f (take i items) +ℤ f (get_or items i d)
sum_more f items i d lt = fold_more (λ sum item. sum +ℤ f item) (pos 0) items i d lt

pub front_in_range : (f : Item → ℤ) (change : GlueChange) → ((item : Item) → unsigned_abs (f item) ≤ absolute_amount change item) → (items : List Item) (i : ℕ) → AreItemsInRange items → unsigned_abs (signed_sum f (take i items)) ≤ max_total
front_in_range f change h items i r =
    let s : unsigned_abs (signed_sum f (take i items)) ≤ sum_by (absolute_amount change) (take i items) = sums_are_bounded f (absolute_amount change) h (take i items) in
    let p : sum_by (absolute_amount change) (take i items) ≤ sum_by (absolute_amount change) items = sum_by-take-le (absolute_amount change) items i in
    let a : sum_by (absolute_amount change) items ≤ max_total = amounts_in_range change items r in
    omega arith

-- one item more stays in range
pub total_more : (change : GlueChange) (order : ℕ) (items : List Item) (i : ℕ) (d : Item) → i < length items → AreItemsInRange items → unsigned_abs (glue_total change order (take i items) +ℤ amount_in change order (get_or items i d)) ≤ max_total
total_more change order items i d lt r =
    subst (λ x. unsigned_abs x ≤ max_total) (sum_more (amount_in change order) items i d lt) (front_in_range (amount_in change order) change (amount_le change order) items (i + 1) r)

pub total_in_range : (change : GlueChange) (order : ℕ) (items : List Item) → AreItemsInRange items → unsigned_abs (glue_total change order items) ≤ max_total
total_in_range change order items r = sum_in_range (amount_in change order) change (amount_le change order) items r

pub totals_of-more : (change : GlueChange) (items : List Item) (i : ℕ) (d : Item) → i < length items → totals_of change (take (i + 1) items) ≡ totals_with change (totals_of change (take i items)) (get_or items i d)
totals_of-more change items i d lt =
    let a : glue_total change 0 (take (i + 1) items) ≡ glue_total change 0 (take i items) +ℤ amount_in change 0 (get_or items i d) = sum_more (amount_in change 0) items i d lt in
    let b : glue_total change 1 (take (i + 1) items) ≡ glue_total change 1 (take i items) +ℤ amount_in change 1 (get_or items i d) = sum_more (amount_in change 1) items i d lt in
    let e : glue_total change 2 (take (i + 1) items) ≡ glue_total change 2 (take i items) +ℤ amount_in change 2 (get_or items i d) = sum_more (amount_in change 2) items i d lt in
    let f : glue_total change 3 (take (i + 1) items) ≡ glue_total change 3 (take i items) +ℤ amount_in change 3 (get_or items i d) = sum_more (amount_in change 3) items i d lt in
    λ j. record { normal = a j; fil = b j; fill = e j; filll = f j }

pub totals_in_range : (change : GlueChange) (items : List Item) → AreItemsInRange items → AreTotalsInRange (totals_of change items)
totals_in_range change items r = record { normal = total_in_range change 0 items r; fil = total_in_range change 1 items r; fill = total_in_range change 2 items r; filll = total_in_range change 3 items r }
