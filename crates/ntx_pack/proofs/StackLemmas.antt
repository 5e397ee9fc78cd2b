-- Sizes of vertical lists, and how large they are.
use Rattle.std.proofs.Common.{◌≡◌, ℕ, ◌+◌, ◌*◌, ◌^◌, ◌≤◌, ◌<◌, ℤ, pos, ◌+ℤ◌, ◌-ℤ◌, List, [], ◌∷◌, ◌++◌, length, take, fold, get_or, subst, sym, ◌∙◌, arith}
use Rattle.std.specs.List.{All}
use Rattle.std.specs.Int.{int_max}
use Rattle.std.specs.Int.RustNames.{unsigned_abs}
use Rattle.std.proofs.lemmas.Int.{ints, clamps}
use Rattle.std.proofs.lemmas.List.{length-take}
use Rattle.std.proofs.lemmas.List.Elements.{All-head, All-tail, All-weaker, All-take}
use Rattle.std.proofs.lemmas.List.Sums.{fold_more, fold_push}
use Rattle.ntx_num.specs.Dimension.{IsDimension}
use Rattle.ntx_num.specs.declared.size.Size.{Size}
use Rattle.ntx_item.specs.declared.item.Item.{Item}
use Rattle.ntx_item.specs.declared.item.Item.TheVariants.{Box, Glyph, Rule, Glue, Kern, Penalty, Disc}
use Rattle.ntx_item.specs.Items.{max_items}
use Rattle.ntx_item.specs.Sums.{signed_sum}
use Rattle.ntx_view.specs.Natural.{greatest}
use Rattle.ntx_item.proofs.SumLemmas.{absolute_sum}
use Rattle.ntx_view.proofs.Sizes.{greatest_within}
use Rattle.ntx_pack.specs.Vertical.{extent, reach_right, depth_after, vlist_depth, vlist_size, stacked}
use Rattle.ntx_view.specs.Measured.{IsMeasured}

-- ---- one item more
-- the size of a list with one item more, by its parts
abbrev pub size_then : ℤ → ℤ → ℤ → Item → Size
size_then w e d item = record { w = int_max w (reach_right item); h = (e +ℤ extent item) -ℤ depth_after d item; d = depth_after d item }

abbrev pub size_so_far : ℤ → ℤ → ℤ → Size
size_so_far w e d = record { w = w; h = e -ℤ d; d = d }

pub stacked_is : (w e d : ℤ) (item : Item) → int_max w (pos 0) ≡ w → size_then w e d item ≡ stacked (size_so_far w e d) item
stacked_is w e d (Box size shift) h = let x : (e +ℤ (size.h +ℤ size.d)) -ℤ size.d ≡ ((e -ℤ d) +ℤ d) +ℤ size.h = omega (arith, ints) in λ i. record { w = int_max w (size.w +ℤ shift); h = x i; d = size.d }
stacked_is w e d (Rule size) h = let x : (e +ℤ (size.h +ℤ size.d)) -ℤ size.d ≡ ((e -ℤ d) +ℤ d) +ℤ size.h = omega (arith, ints) in λ i. record { w = int_max w size.w; h = x i; d = size.d }
stacked_is w e d (Glue spec) h = let x : (e +ℤ spec.width) -ℤ pos 0 ≡ ((e -ℤ d) +ℤ d) +ℤ spec.width = omega (arith, ints) in λ i. record { w = h i; h = x i; d = pos 0 }
stacked_is w e d (Kern k font) h = let x : (e +ℤ k) -ℤ pos 0 ≡ ((e -ℤ d) +ℤ d) +ℤ k = omega (arith, ints) in λ i. record { w = h i; h = x i; d = pos 0 }
stacked_is w e d (Glyph size) h = let x : (e +ℤ pos 0) -ℤ d ≡ e -ℤ d = omega (arith, ints) in λ i. record { w = h i; h = x i; d = d }
stacked_is w e d (Penalty p) h = let x : (e +ℤ pos 0) -ℤ d ≡ e -ℤ d = omega (arith, ints) in λ i. record { w = h i; h = x i; d = d }
stacked_is w e d (Disc pre post replace pre_empty post_empty regular) h = let x : (e +ℤ pos 0) -ℤ d ≡ e -ℤ d = omega (arith, ints) in λ i. record { w = h i; h = x i; d = d }

max_zero : (a : ℤ) (m : ℤ) → int_max m (pos 0) ≡ m → int_max (int_max m a) (pos 0) ≡ int_max m a
max_zero a m h = omega (arith, ints, clamps)

greatest_zero : (f : Item → ℤ) (start : ℤ) (items : List Item) → int_max start (pos 0) ≡ start → int_max (fold (λ most item. int_max most (f item)) start items) (pos 0) ≡ fold (λ most item. int_max most (f item)) start items
greatest_zero f start [] h = h
greatest_zero f start (x ∷ xs) h = greatest_zero f (int_max start (f x)) xs (max_zero (f x) start h)

pub width_zero : (items : List Item) → int_max (greatest reach_right items) (pos 0) ≡ greatest reach_right items
width_zero items = greatest_zero reach_right (pos 0) items (omega (arith, ints, clamps))

pub vlist_size-more : (items : List Item) (i : ℕ) (d : Item) → i < length items → vlist_size (take (i + 1) items) ≡ stacked (vlist_size (take i items)) (get_or items i d)
vlist_size-more items i d lt =
    let item : Item = get_or items i d in
    let w : greatest reach_right (take (i + 1) items) ≡ int_max (greatest reach_right (take i items)) (reach_right item) = fold_more (λ most item. int_max most (reach_right item)) (pos 0) items i d lt in
    let e : signed_sum extent (take (i + 1) items) ≡ signed_sum extent (take i items) +ℤ extent item = fold_more (λ sum item. sum +ℤ extent item) (pos 0) items i d lt in
    let b : vlist_depth (take (i + 1) items) ≡ depth_after (vlist_depth (take i items)) item = fold_more depth_after (pos 0) items i d lt in
    let parts : vlist_size (take (i + 1) items) ≡ size_then (greatest reach_right (take i items)) (signed_sum extent (take i items)) (vlist_depth (take i items)) item = λ j. record { w = w j; h = e j -ℤ b j; d = b j } in
    parts ∙ stacked_is (greatest reach_right (take i items)) (signed_sum extent (take i items)) (vlist_depth (take i items)) item (width_zero (take i items))

pub vlist_size-push : (items : List Item) (item : Item) → vlist_size (items ++ item ∷ []) ≡ stacked (vlist_size items) item
vlist_size-push items item =
    let w : greatest reach_right (items ++ item ∷ []) ≡ int_max (greatest reach_right items) (reach_right item) = fold_push (λ most item. int_max most (reach_right item)) (pos 0) items item in
    let e : signed_sum extent (items ++ item ∷ []) ≡ signed_sum extent items +ℤ extent item = fold_push (λ sum item. sum +ℤ extent item) (pos 0) items item in
    let b : vlist_depth (items ++ item ∷ []) ≡ depth_after (vlist_depth items) item = fold_push depth_after (pos 0) items item in
    let parts : vlist_size (items ++ item ∷ []) ≡ size_then (greatest reach_right items) (signed_sum extent items) (vlist_depth items) item = λ j. record { w = w j; h = e j -ℤ b j; d = b j } in
    parts ∙ stacked_is (greatest reach_right items) (signed_sum extent items) (vlist_depth items) item (width_zero items)

-- ---- bounds
extent_le : (item : Item) → IsMeasured item → unsigned_abs (extent item) ≤ 2 ^ 31
extent_le (Box size shift) m = let h : IsDimension size.h = m.0.height in let d : IsDimension size.d = m.0.depth in omega (arith, ints)
extent_le (Rule size) m = let h : IsDimension size.h = m.height in let d : IsDimension size.d = m.depth in omega (arith, ints)
extent_le (Glue spec) m = omega (arith, ints)
extent_le (Kern w font) m = omega (arith, ints)
extent_le (Glyph size) m = omega (arith, ints)
extent_le (Penalty p) m = omega (arith, ints)
extent_le (Disc pre post replace pre_empty post_empty regular) m = omega (arith, ints)

reach_le : (item : Item) → IsMeasured item → unsigned_abs (reach_right item) ≤ 2 ^ 31
reach_le (Box size shift) m = let h : IsDimension size.w = m.0.width in let d : IsDimension shift = m.1 in omega (arith, ints)
reach_le (Rule size) m = let h : IsDimension size.w = m.width in omega (arith, ints)
reach_le (Glue spec) m = omega (arith, ints)
reach_le (Kern w font) m = omega (arith, ints)
reach_le (Glyph size) m = omega (arith, ints)
reach_le (Penalty p) m = omega (arith, ints)
reach_le (Disc pre post replace pre_empty post_empty regular) m = omega (arith, ints)

after_le : (item : Item) (d : ℤ) → IsMeasured item → unsigned_abs d ≤ 2 ^ 31 → unsigned_abs (depth_after d item) ≤ 2 ^ 31
after_le (Box size shift) d m h = let b : IsDimension size.d = m.0.depth in omega (arith, ints)
after_le (Rule size) d m h = let b : IsDimension size.d = m.depth in omega (arith, ints)
after_le (Glue spec) d m h = omega (arith, ints)
after_le (Kern w font) d m h = omega (arith, ints)
after_le (Glyph size) d m h = h
after_le (Penalty p) d m h = h
after_le (Disc pre post replace pre_empty post_empty regular) d m h = h

depth_from : (d : ℤ) (items : List Item) → unsigned_abs d ≤ 2 ^ 31 → All IsMeasured items → unsigned_abs (fold depth_after d items) ≤ 2 ^ 31
depth_from d [] h all = h
depth_from d (x ∷ xs) h all = depth_from (depth_after d x) xs (after_le x d (All-head IsMeasured x xs all) h) (All-tail IsMeasured x xs all)

pub depth_le : (items : List Item) → All IsMeasured items → unsigned_abs (vlist_depth items) ≤ 2 ^ 31
depth_le items all = depth_from (pos 0) items (omega arith) all

pub width_le : (items : List Item) → All IsMeasured items → unsigned_abs (greatest reach_right items) ≤ 2 ^ 31
width_le items all = greatest_within reach_right (2 ^ 31) items (All-weaker IsMeasured (λ item. unsigned_abs (reach_right item) ≤ 2 ^ 31) reach_le items all)

extents_from : (start : ℤ) (items : List Item) → All IsMeasured items → unsigned_abs (fold (λ sum item. sum +ℤ extent item) start items) ≤ unsigned_abs start + 2 ^ 31 * length items
extents_from start [] all = omega arith
extents_from start (x ∷ xs) all =
    let rest : unsigned_abs (fold (λ sum item. sum +ℤ extent item) (start +ℤ extent x) xs) ≤ unsigned_abs (start +ℤ extent x) + 2 ^ 31 * length xs = extents_from (start +ℤ extent x) xs (All-tail IsMeasured x xs all) in
    let one : unsigned_abs (extent x) ≤ 2 ^ 31 = extent_le x (All-head IsMeasured x xs all) in
    let both : unsigned_abs (start +ℤ extent x) ≤ unsigned_abs start + unsigned_abs (extent x) = absolute_sum start (extent x) in
    omega arith

pub extents_le : (items : List Item) → length items ≤ max_items → All IsMeasured items → unsigned_abs (signed_sum extent items) ≤ 2 ^ 49
extents_le items few all = omega (arith, extents_from (pos 0) items all)

-- height and depth together are what the items take
back : (e d : ℤ) → (e -ℤ d) +ℤ d ≡ e
back e d = omega (arith, ints)

pub stack_le : (items : List Item) (i : ℕ) → length items ≤ max_items → All IsMeasured items → unsigned_abs ((vlist_size (take i items)).h +ℤ (vlist_size (take i items)).d) ≤ 2 ^ 52
stack_le items i few all =
    let e : unsigned_abs (signed_sum extent (take i items)) ≤ 2 ^ 49 = extents_le (take i items) (omega (arith, length-take i items)) (All-take IsMeasured i items all) in
    subst (λ x. unsigned_abs x ≤ 2 ^ 52) (sym (back (signed_sum extent (take i items)) (vlist_depth (take i items)))) (omega arith)

difference_le : (e d : ℤ) → unsigned_abs e ≤ 2 ^ 49 → unsigned_abs d ≤ 2 ^ 31 → unsigned_abs (e -ℤ d) ≤ 2 ^ 51
difference_le e d a b = omega (arith, ints)

pub height_le : (items : List Item) → length items ≤ max_items → All IsMeasured items → unsigned_abs (vlist_size items).h ≤ 2 ^ 51
height_le items few all = difference_le (signed_sum extent items) (vlist_depth items) (extents_le items few all) (depth_le items all)
