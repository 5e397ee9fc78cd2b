-- Sizes of lists, and how large they are.
use Rattle.std.proofs.Common.{◌≡◌, ℕ, ◌+◌, ◌≤◌, ◌<◌, ℤ, pos, ◌+ℤ◌, List, [], ◌∷◌, length, take, fold, get_or, subst, arith}
use Rattle.std.specs.List.{All, sum_by}
use Rattle.std.specs.Int.{int_max}
use Rattle.std.specs.Int.RustNames.{unsigned_abs}
use Rattle.std.proofs.lemmas.Int.{ints, clamps}
use Rattle.std.proofs.lemmas.List.Elements.{All-head, All-tail, All-weaker}
use Rattle.std.proofs.lemmas.List.Sums.{fold_more, sum_by-take-le}
use Rattle.ntx_item.proofs.SumLemmas.{sums_are_bounded}
use Rattle.ntx_item.specs.declared.item.Item.{Item}
use Rattle.ntx_item.specs.declared.item.Item.TheVariants.{Box, Glyph, Rule, Glue, Kern, Penalty, Disc}
use Rattle.ntx_item.specs.Items.{absolute_width, AreItemsInRange, max_total}
use Rattle.ntx_item.specs.Sums.{signed_sum, natural_width}
use Rattle.ntx_view.specs.Natural.{reach_above, reach_below, greatest, hlist_size, size_with, max_reach, IsReaching}

pub natural-le-absolute : (item : Item) → unsigned_abs (natural_width item) ≤ absolute_width item
natural-le-absolute (Box size shift) = omega arith
natural-le-absolute (Glyph size) = omega arith
natural-le-absolute (Rule size) = omega arith
natural-le-absolute (Glue spec) = omega arith
natural-le-absolute (Kern w font) = omega arith
natural-le-absolute (Penalty p) = omega arith
natural-le-absolute (Disc pre post replace pre_empty post_empty regular) = omega arith

max_abs : (a b : ℤ) (m : ℕ) → unsigned_abs a ≤ m → unsigned_abs b ≤ m → unsigned_abs (int_max a b) ≤ m
max_abs a b m p q = omega (arith, ints, clamps)

greatest_from : (f : Item → ℤ) (m : ℕ) (start : ℤ) → unsigned_abs start ≤ m → (items : List Item) → All (λ item. unsigned_abs (f item) ≤ m) items → unsigned_abs (fold (λ most item. int_max most (f item)) start items) ≤ m
greatest_from f m start le [] h = le
greatest_from f m start le (x ∷ xs) h =
    greatest_from f m (int_max start (f x)) (max_abs start (f x) m le (All-head (λ item. unsigned_abs (f item) ≤ m) x xs h)) xs (All-tail (λ item. unsigned_abs (f item) ≤ m) x xs h)

pub greatest_within : (f : Item → ℤ) (m : ℕ) (items : List Item) → All (λ item. unsigned_abs (f item) ≤ m) items → unsigned_abs (greatest f items) ≤ m
greatest_within f m items h = greatest_from f m (pos 0) (omega arith) items h

-- ---- the size of a list
-- what stands past the end of a list
abbrev pub past_end : Item
past_end = Box (record { w = pos 0; h = pos 0; d = pos 0 }) (pos 0)

pub hlist_size-more : (items : List Item) (i : ℕ) (d : Item) → i < length items → hlist_size (take (i + 1) items) ≡ size_with (hlist_size (take i items)) (get_or items i d)
hlist_size-more items i d lt =
    let w : signed_sum natural_width (take (i + 1) items) ≡ signed_sum natural_width (take i items) +ℤ natural_width (get_or items i d) = fold_more (λ sum item. sum +ℤ natural_width item) (pos 0) items i d lt in
    let h : greatest reach_above (take (i + 1) items) ≡ int_max (greatest reach_above (take i items)) (reach_above (get_or items i d)) = fold_more (λ most item. int_max most (reach_above item)) (pos 0) items i d lt in
    let b : greatest reach_below (take (i + 1) items) ≡ int_max (greatest reach_below (take i items)) (reach_below (get_or items i d)) = fold_more (λ most item. int_max most (reach_below item)) (pos 0) items i d lt in
    cc

-- a width with its sign is no greater than the widths without
pub width_within : (items : List Item) → unsigned_abs (signed_sum natural_width items) ≤ sum_by absolute_width items
width_within items = sums_are_bounded natural_width absolute_width natural-le-absolute items

pub width_more : (items : List Item) (i : ℕ) (d : Item) → i < length items → AreItemsInRange items → unsigned_abs (signed_sum natural_width (take i items) +ℤ natural_width (get_or items i d)) ≤ max_total
width_more items i d lt r =
    let e : signed_sum natural_width (take (i + 1) items) ≡ signed_sum natural_width (take i items) +ℤ natural_width (get_or items i d) = fold_more (λ sum item. sum +ℤ natural_width item) (pos 0) items i d lt in
    let sum : unsigned_abs (signed_sum natural_width (take (i + 1) items)) ≤ sum_by absolute_width (take (i + 1) items) = width_within (take (i + 1) items) in
    let part : sum_by absolute_width (take (i + 1) items) ≤ sum_by absolute_width items = sum_by-take-le absolute_width items (i + 1) in
    let all : sum_by absolute_width items ≤ max_total = r.widths in
    subst (λ x. unsigned_abs x ≤ max_total) e (omega arith)

pub height_within : (items : List Item) → All IsReaching items → unsigned_abs (greatest reach_above items) ≤ max_reach
height_within items all = greatest_within reach_above max_reach items (All-weaker IsReaching (λ item. unsigned_abs (reach_above item) ≤ max_reach) (λ item r. r.above) items all)

pub depth_within : (items : List Item) → All IsReaching items → unsigned_abs (greatest reach_below items) ≤ max_reach
depth_within items all = greatest_within reach_below max_reach items (All-weaker IsReaching (λ item. unsigned_abs (reach_below item) ≤ max_reach) (λ item r. r.below) items all)
