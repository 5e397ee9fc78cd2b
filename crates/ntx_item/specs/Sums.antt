-- What the items of a list come to together: their natural width, and the stretch and shrink of their glue, order by order ("TeX: The Program",
-- sections 150, 649 to 656 and 837 to 841).
--     signed_sum f items                a sum over the items, or over any list
--     natural_width item                the width of one item
--     amount_in change order item       its stretch or shrink of one order
--     glue_total change order items     the total stretch or shrink of one order
--     SumsAddOverParts                  the sum of a list is that of its parts; a sum between two places is a difference of two prefix sums
--     SumsAreBounded                    a sum is no greater than the sum of the absolute values
use Rattle.std.specs.Prelude.{◌≡◌, ℕ, ◌-◌, ◌≤◌, nat_eq, ℤ, pos, negsuc, ◌+ℤ◌, ◌-ℤ◌, unsigned_abs, if◌then◌else◌, List, [], ◌∷◌, ◌++◌, take, drop, fold, sum_by}
use Rattle.ntx_item.specs.declared.glue.GlueSpec.{GlueSpec}
use Rattle.ntx_item.specs.declared.glue_change.GlueChange.{GlueChange}
use Rattle.ntx_item.specs.declared.glue_change.GlueChange.TheVariants.{Stretch, Shrink}
use Rattle.ntx_item.specs.declared.item.Item.{Item}
use Rattle.ntx_item.specs.declared.item.Item.TheVariants.{Box, Glyph, Rule, Glue, Kern, Penalty, Disc}

-- the sum of a number of each element, with its sign
abbrev pub signed_sum : {A : Type 0} → (A → ℤ) → List A → ℤ
signed_sum f xs = fold (λ sum x. sum +ℤ f x) (pos 0) xs

-- ---- one item

-- the natural width of an item, of a discretionary that of what stands there without a break
abbrev pub natural_width : Item → ℤ
natural_width (Box size shift) = size.w
natural_width (Glyph size) = size.w
natural_width (Rule size) = size.w
natural_width (Glue spec) = spec.width
natural_width (Kern w font) = w
natural_width (Penalty p) = pos 0
natural_width (Disc pre post replace pre_empty post_empty regular) = replace.w

-- glue stretches to make up for a size that is missing, and shrinks for one that is too great
abbrev pub change_for : ℤ → GlueChange
change_for (pos x) = Stretch
change_for (negsuc x) = Shrink

-- how far a glue can change in this way, and of which order that is
abbrev pub amount_of : GlueChange → GlueSpec → ℤ
amount_of Stretch spec = spec.stretch
amount_of Shrink spec = spec.shrink

abbrev pub order_of : GlueChange → GlueSpec → ℕ
order_of Stretch spec = spec.stretch_order
order_of Shrink spec = spec.shrink_order

-- how far an item can change in this way with glue of one order
abbrev pub amount_in : GlueChange → ℕ → Item → ℤ
amount_in change order (Glue spec) = if nat_eq (order_of change spec) order then amount_of change spec else pos 0
amount_in change order _ = pos 0

-- ---- all items

abbrev pub glue_total : GlueChange → ℕ → List Item → ℤ
glue_total change order items = signed_sum (amount_in change order) items

-- ---- laws

-- A sum over a list is the sum over its parts. So the items from place a to place b come to the difference of the sums up to b and up to a.
pub record SumsAddOverParts : Type 0 where
  pub append : (f : Item → ℤ) (items others : List Item) → signed_sum f (items ++ others) ≡ signed_sum f items +ℤ signed_sum f others
  pub push : (f : Item → ℤ) (items : List Item) (item : Item) → signed_sum f (items ++ item ∷ []) ≡ signed_sum f items +ℤ f item
  pub between : (f : Item → ℤ) (items : List Item) (a b : ℕ) → a ≤ b →
      signed_sum f (take (b - a) (drop a items)) ≡ signed_sum f (take b items) -ℤ signed_sum f (take a items)

-- A sum with signs is no greater than the sum of the absolute values, or of any numbers that are no less.
abbrev pub SumsAreBounded : Type 0
SumsAreBounded = (f : Item → ℤ) (bound : Item → ℕ) → ((item : Item) → unsigned_abs (f item) ≤ bound item) →
    (items : List Item) → unsigned_abs (signed_sum f items) ≤ sum_by bound items
