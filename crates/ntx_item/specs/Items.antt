-- Items in range: bounds of lists within which the sums of packing and line breaking stay far inside 64 bits. TeX's own sums are of 32 bits
-- ("TeX: The Program", sections 650 and 837).
--     AreItemsInRange items             a list of items is in range
--     PartsAreInRange                   its parts are in range then
use Rattle.std.specs.Prelude.{ℕ, ◌+◌, ◌^◌, ◌≤◌, List, length, take, drop, All, sum_by, unsigned_abs}
use Rattle.ntx_num.specs.Dimension.{max_nodes, max_order, max_penalty}
use Rattle.ntx_item.specs.declared.item.Item.{Item}
use Rattle.ntx_item.specs.declared.item.Item.TheVariants.{Box, Glyph, Rule, Glue, Kern, Penalty, Disc}

-- ---- bounds

-- the most items of a list: one for each node
abbrev pub max_items : ℕ
max_items = max_nodes

-- the greatest sum of absolute widths, stretches or shrinks, whatever their orders
abbrev pub max_total : ℕ
max_total = 2 ^ 48

-- ---- one item

-- the widths of an item, and of all parts of a discretionary, added without their signs
abbrev pub absolute_width : Item → ℕ
absolute_width (Box size shift) = unsigned_abs size.w
absolute_width (Glyph size) = unsigned_abs size.w
absolute_width (Rule size) = unsigned_abs size.w
absolute_width (Glue spec) = unsigned_abs spec.width
absolute_width (Kern w font) = unsigned_abs w
absolute_width (Penalty p) = 0
absolute_width (Disc pre post replace pre_empty post_empty regular) = unsigned_abs pre.w + unsigned_abs post.w + unsigned_abs replace.w

abbrev pub absolute_stretch : Item → ℕ
absolute_stretch (Glue spec) = unsigned_abs spec.stretch
absolute_stretch _ = 0

abbrev pub absolute_shrink : Item → ℕ
absolute_shrink (Glue spec) = unsigned_abs spec.shrink
absolute_shrink _ = 0

-- a penalty is not too great in absolute value, and neither is an order of infinity
abbrev pub IsItemInRange : Item → Type 0
IsItemInRange (Glue spec) = (spec.stretch_order ≤ max_order) × (spec.shrink_order ≤ max_order)
IsItemInRange (Penalty p) = unsigned_abs p ≤ max_penalty
IsItemInRange _ = Unit {0}

-- what is known of each item of a list in range
pub record IsBounded (item : Item) : Type 0 where
  pub in_range : IsItemInRange item
  pub width : absolute_width item ≤ max_total
  pub stretch : absolute_stretch item ≤ max_total
  pub shrink : absolute_shrink item ≤ max_total

-- ---- lists of items

pub record AreItemsInRange (items : List Item) : Type 0 where
  pub count : length items ≤ max_items
  pub each : All IsItemInRange items
  pub widths : sum_by absolute_width items ≤ max_total
  pub stretches : sum_by absolute_stretch items ≤ max_total
  pub shrinks : sum_by absolute_shrink items ≤ max_total

-- Of items in range the first ones and the others are in range, and each of them is bounded.
pub record PartsAreInRange : Type 0 where
  pub front : (items : List Item) (k : ℕ) → AreItemsInRange items → AreItemsInRange (take k items)
  pub rest : (items : List Item) (k : ℕ) → AreItemsInRange items → AreItemsInRange (drop k items)
  pub each : (items : List Item) → AreItemsInRange items → All IsBounded items
