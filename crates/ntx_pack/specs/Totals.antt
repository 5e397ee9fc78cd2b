-- How much the glue of a list stretches and shrinks, totalled in four orders ("TeX: The Program", sections 150, 650, 656 and 659).
--     highest_order change items         the highest order with a total other than 0
use Rattle.std.specs.Prelude.{ℕ, ◌≤◌, pos, ◌+ℤ◌, unsigned_abs, List, if◌then◌else◌}
use Rattle.std.specs.Ordering.{int_eq}
use Rattle.ntx_item.specs.declared.item.Item.{Item}
use Rattle.ntx_item.specs.Items.{max_total}
use Rattle.ntx_item.specs.Sums.{amount_in, glue_total}
use Rattle.ntx_item.specs.declared.glue_change.GlueChange.{GlueChange}
use Rattle.ntx_pack.specs.declared.totals.GlueTotals.{GlueTotals}

-- the highest order with a total other than 0, and 0 where there is none
abbrev pub highest_order : GlueChange → List Item → ℕ
highest_order change items =
    if int_eq (glue_total change 3 items) (pos 0) then
    (if int_eq (glue_total change 2 items) (pos 0) then
    (if int_eq (glue_total change 1 items) (pos 0) then 0 else 1)
    else 2)
    else 3

-- ---- all four at once

abbrev pub totals_of : GlueChange → List Item → GlueTotals
totals_of change items = record { normal = glue_total change 0 items; fil = glue_total change 1 items; fill = glue_total change 2 items; filll = glue_total change 3 items }

-- the totals of a list with one item more
abbrev pub totals_with : GlueChange → GlueTotals → Item → GlueTotals
totals_with change totals item = record {
  normal = totals.normal +ℤ amount_in change 0 item;
  fil = totals.fil +ℤ amount_in change 1 item;
  fill = totals.fill +ℤ amount_in change 2 item;
  filll = totals.filll +ℤ amount_in change 3 item;
}

pub record AreTotalsInRange (totals : GlueTotals) : Type 0 where
  pub normal : unsigned_abs totals.normal ≤ max_total
  pub fil : unsigned_abs totals.fil ≤ max_total
  pub fill : unsigned_abs totals.fill ≤ max_total
  pub filll : unsigned_abs totals.filll ≤ max_total
