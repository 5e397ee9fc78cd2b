-- The natural size of a horizontal list of items ("TeX: The Program", sections 649 to 656): how wide its items are together, and how far they reach
-- above and below the baseline, at least 0.
--     hlist_size items       that size
--     IsReaching item        it reaches at most 2^31 scaled points above and below the baseline, in absolute value
use Rattle.std.specs.Prelude.{ℕ, ◌^◌, ◌≤◌, ℤ, pos, ◌+ℤ◌, ◌-ℤ◌, unsigned_abs, List, fold}
use Rattle.std.specs.Int.{int_max}
use Rattle.ntx_num.specs.declared.size.Size.{Size}
use Rattle.ntx_item.specs.declared.item.Item.{Item}
use Rattle.ntx_item.specs.declared.item.Item.TheVariants.{Box, Glyph, Rule, Disc}
use Rattle.ntx_item.specs.Sums.{signed_sum, natural_width}

-- how far an item reaches above the baseline; a box is moved down by its shift
abbrev pub reach_above : Item → ℤ
reach_above (Box size shift) = size.h -ℤ shift
reach_above (Glyph size) = size.h
reach_above (Rule size) = size.h
reach_above (Disc pre post replace pre_empty post_empty regular) = replace.h
reach_above _ = pos 0

-- how far it reaches below
abbrev pub reach_below : Item → ℤ
reach_below (Box size shift) = size.d +ℤ shift
reach_below (Glyph size) = size.d
reach_below (Rule size) = size.d
reach_below (Disc pre post replace pre_empty post_empty regular) = replace.d
reach_below _ = pos 0

-- the greatest of 0 and a number of each item
abbrev pub greatest : (Item → ℤ) → List Item → ℤ
greatest f items = fold (λ most item. int_max most (f item)) (pos 0) items

abbrev pub hlist_size : List Item → Size
hlist_size items = record { w = signed_sum natural_width items; h = greatest reach_above items; d = greatest reach_below items }

-- the size of a list with one item more
abbrev pub size_with : Size → Item → Size
size_with size item = record { w = size.w +ℤ natural_width item; h = int_max size.h (reach_above item); d = int_max size.d (reach_below item) }

-- the greatest reach
abbrev pub max_reach : ℕ
max_reach = 2 ^ 31

pub record IsReaching (item : Item) : Type 0 where
  pub above : unsigned_abs (reach_above item) ≤ max_reach
  pub below : unsigned_abs (reach_below item) ≤ max_reach
