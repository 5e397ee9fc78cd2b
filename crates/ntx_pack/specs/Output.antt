-- Glue in output ("TeX: The Program", sections 625 and 634): how wide, or in a vertical list how high, the items of a box come out.
--     set_widths glue items    the widths of the items of an hlist whose glue is set so
--     set_heights glue items   the heights and depths together of the items of a vlist
-- The stretch or shrink of all glue up to a place is one rounded multiple of the ratio, and one glue has the difference: roundings do not add up.
use Rattle.std.specs.Prelude.{◌≤◌, ◌^◌, ℤ, pos, ◌+ℤ◌, ◌-ℤ◌, neg_ℤ, ◌<ℤ◌, unsigned_abs, nat_eq, if◌then◌else◌, List, [], ◌∷◌}
use Rattle.ntx_num.specs.Ratio.{rounded_part}
use Rattle.ntx_item.specs.declared.item.Item.{Item}
use Rattle.ntx_item.specs.Sums.{signed_sum}
use Rattle.ntx_item.specs.Sums.{natural_width}
use Rattle.ntx_item.specs.declared.glue_change.GlueChange.TheVariants.{Stretch, Shrink}
use Rattle.ntx_pack.specs.declared.glue_set.GlueSet.{GlueSet}
use Rattle.ntx_item.specs.Sums.{amount_in}
use Rattle.ntx_pack.specs.Vertical.{extent}

-- How an item moves the running total: a glue of the order that is set by its stretch, or by minus its shrink.
abbrev pub move : GlueSet → Item → ℤ
move glue item =
    if nat_eq glue.sign 1 then amount_in Stretch glue.order item
    else if nat_eq glue.sign 2 then neg_ℤ (amount_in Shrink glue.order item)
    else pos 0

-- the running total after these items
abbrev pub running : GlueSet → List Item → ℤ
running glue items = signed_sum (move glue) items

-- how much wider than its glue's natural size a list is up to a place with this running total
abbrev pub widened : GlueSet → ℤ → ℤ
widened glue g = rounded_part glue.num (unsigned_abs glue.den) g

-- The size of an item in output, where the running total before it is g and its own size is this.
abbrev pub set_size : GlueSet → ℤ → ℤ → Item → ℤ
set_size glue g size item = size +ℤ (widened glue (g +ℤ move glue item) -ℤ widened glue g)

-- of each item, from the running total g on
abbrev pub set_sizes : (Item → ℤ) → GlueSet → ℤ → List Item → List ℤ
set_sizes size glue g [] = []
set_sizes size glue g (item ∷ items) = set_size glue g (size item) item ∷ set_sizes size glue (g +ℤ move glue item) items

abbrev pub set_widths : GlueSet → List Item → List ℤ
set_widths glue items = set_sizes natural_width glue (pos 0) items

abbrev pub set_heights : GlueSet → List Item → List ℤ
set_heights glue items = set_sizes extent glue (pos 0) items

abbrev pub sum_of : List ℤ → ℤ
sum_of sizes = signed_sum (λ size. size) sizes

-- a ratio in the range of rounding
pub record IsRatio (glue : GlueSet) : Type 0 where
  pub num : unsigned_abs glue.num ≤ 2 ^ 32
  pub den : pos 0 <ℤ glue.den
