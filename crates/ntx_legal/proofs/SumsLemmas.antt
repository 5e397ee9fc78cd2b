-- The sums of lists of items, and how large they are.
use Rattle.std.proofs.Common.{◌≡◌, ℕ, ◌+◌, ◌≤◌, ◌<◌, ℤ, pos, ◌+ℤ◌, List, Bool, true, false, cond, length, take, get_or, arith}
use Rattle.std.specs.Prelude.{nat_eq}
use Rattle.std.specs.List.{sum_by}
use Rattle.std.specs.Int.RustNames.{unsigned_abs}
use Rattle.std.proofs.lemmas.List.Sums.{fold_more}
use Rattle.ntx_item.proofs.SumLemmas.{sums_are_bounded}
use Rattle.ntx_item.specs.declared.item.Item.{Item}
use Rattle.ntx_item.specs.declared.item.Item.TheVariants.{Box, Glue, Penalty, Disc}
use Rattle.ntx_item.specs.declared.glue_change.GlueChange.TheVariants.{Stretch}
use Rattle.ntx_item.specs.Items.{absolute_width, absolute_stretch, absolute_shrink, AreItemsInRange, max_total}
use Rattle.ntx_item.specs.Sums.{signed_sum, natural_width, amount_in}
use Rattle.ntx_legal.specs.LineSums.{shrink_of, sums_of, sums_with, AreSumsWithin}

chosen_le : (b : Bool) (x : ℤ) → unsigned_abs (cond b x (pos 0)) ≤ unsigned_abs x
chosen_le true x = omega arith
chosen_le false x = omega arith

width_le : (item : Item) → unsigned_abs (natural_width item) ≤ absolute_width item
width_le (Disc pre post replace pre_empty post_empty regular) = omega arith
width_le (Penalty p) = omega arith
width_le _ = omega arith

stretch_le : (order : ℕ) (item : Item) → unsigned_abs (amount_in Stretch order item) ≤ absolute_stretch item
stretch_le order (Glue spec) = chosen_le (nat_eq spec.stretch_order order) spec.stretch
stretch_le order _ = omega arith

shrink_le : (item : Item) → unsigned_abs (shrink_of item) ≤ absolute_shrink item
shrink_le (Glue spec) = omega arith
shrink_le _ = omega arith

-- a sum whose terms are bounded by numbers that add to no more than this
within : (f : Item → ℤ) (bound : Item → ℕ) → ((item : Item) → unsigned_abs (f item) ≤ bound item) → (items : List Item) → sum_by bound items ≤ max_total → unsigned_abs (signed_sum f items) ≤ max_total
within f bound h items r =
    let s : unsigned_abs (signed_sum f items) ≤ sum_by bound items = sums_are_bounded f bound h items in
    omega arith

pub sums_within : (items : List Item) → AreItemsInRange items → AreSumsWithin max_total (sums_of items)
sums_within items r = record {
  width = within natural_width absolute_width width_le items r.widths;
  stretch = record {
    normal = within (amount_in Stretch 0) absolute_stretch (stretch_le 0) items r.stretches;
    fil = within (amount_in Stretch 1) absolute_stretch (stretch_le 1) items r.stretches;
    fill = within (amount_in Stretch 2) absolute_stretch (stretch_le 2) items r.stretches;
    filll = within (amount_in Stretch 3) absolute_stretch (stretch_le 3) items r.stretches;
  };
  shrink = within shrink_of absolute_shrink shrink_le items r.shrinks;
}

sum_more : (f : Item → ℤ) (items : List Item) (i : ℕ) (d : Item) → i < length items → signed_sum f (take (i + 1) items) ≡ signed_sum f (take i items) +ℤ f (get_or items i d)
sum_more f items i d lt = fold_more (λ sum item. sum +ℤ f item) (pos 0) items i d lt

-- the sums of one item more
pub sums_more : (items : List Item) (i : ℕ) (d : Item) → i < length items → sums_of (take (i + 1) items) ≡ sums_with (sums_of (take i items)) (get_or items i d)
sums_more items i d lt =
    let w : signed_sum natural_width (take (i + 1) items) ≡ signed_sum natural_width (take i items) +ℤ natural_width (get_or items i d) = sum_more natural_width items i d lt in
    let a : signed_sum (amount_in Stretch 0) (take (i + 1) items) ≡ signed_sum (amount_in Stretch 0) (take i items) +ℤ amount_in Stretch 0 (get_or items i d) = sum_more (amount_in Stretch 0) items i d lt in
    let b : signed_sum (amount_in Stretch 1) (take (i + 1) items) ≡ signed_sum (amount_in Stretch 1) (take i items) +ℤ amount_in Stretch 1 (get_or items i d) = sum_more (amount_in Stretch 1) items i d lt in
    let e : signed_sum (amount_in Stretch 2) (take (i + 1) items) ≡ signed_sum (amount_in Stretch 2) (take i items) +ℤ amount_in Stretch 2 (get_or items i d) = sum_more (amount_in Stretch 2) items i d lt in
    let f : signed_sum (amount_in Stretch 3) (take (i + 1) items) ≡ signed_sum (amount_in Stretch 3) (take i items) +ℤ amount_in Stretch 3 (get_or items i d) = sum_more (amount_in Stretch 3) items i d lt in
    let s : signed_sum shrink_of (take (i + 1) items) ≡ signed_sum shrink_of (take i items) +ℤ shrink_of (get_or items i d) = sum_more shrink_of items i d lt in
    λ j. record { width = w j; stretch = record { normal = a j; fil = b j; fill = e j; filll = f j }; shrink = s j }

-- what a read past the end of a list of items gives
abbrev pub past_end : Item
past_end = Box (record { w = pos 0; h = pos 0; d = pos 0 }) (pos 0)
