-- What the items of a line come to together ("TeX: The Program", sections 823 and 837 to 842): its natural width, its stretch order by order, and its
-- shrink, which counts as finite.
--     stretch_of items, sums_of items   the sums of a list of items
--     IsStretchWithin bound stretch
--     AreSumsWithin bound sums          each is at most this in absolute value
use Rattle.std.specs.Prelude.{ℕ, ◌≤◌, ℤ, pos, ◌+ℤ◌, unsigned_abs, List}
use Rattle.ntx_item.specs.declared.item.Item.{Item}
use Rattle.ntx_item.specs.declared.item.Item.TheVariants.{Glue}
use Rattle.ntx_item.specs.declared.glue_change.GlueChange.TheVariants.{Stretch}
use Rattle.ntx_item.specs.Sums.{signed_sum, natural_width, amount_in, glue_total}
use Rattle.ntx_legal.specs.declared.stretch.GlueStretch.{GlueStretch}
use Rattle.ntx_legal.specs.declared.sums.Sums.{Sums}

-- how far an item shrinks, whatever the order of its shrink
abbrev pub shrink_of : Item → ℤ
shrink_of (Glue spec) = spec.shrink
shrink_of _ = pos 0

abbrev pub stretch_of : List Item → GlueStretch
stretch_of items = record {
  normal = glue_total Stretch 0 items;
  fil = glue_total Stretch 1 items;
  fill = glue_total Stretch 2 items;
  filll = glue_total Stretch 3 items;
}

abbrev pub sums_of : List Item → Sums
sums_of items = record { width = signed_sum natural_width items; stretch = stretch_of items; shrink = signed_sum shrink_of items }

-- the sums with one item more
abbrev pub stretch_with : GlueStretch → Item → GlueStretch
stretch_with stretch item = record {
  normal = stretch.normal +ℤ amount_in Stretch 0 item;
  fil = stretch.fil +ℤ amount_in Stretch 1 item;
  fill = stretch.fill +ℤ amount_in Stretch 2 item;
  filll = stretch.filll +ℤ amount_in Stretch 3 item;
}

abbrev pub sums_with : Sums → Item → Sums
sums_with sums item = record { width = sums.width +ℤ natural_width item; stretch = stretch_with sums.stretch item; shrink = sums.shrink +ℤ shrink_of item }

-- the sums of two lists together
abbrev pub stretch_plus : GlueStretch → GlueStretch → GlueStretch
stretch_plus a b = record { normal = a.normal +ℤ b.normal; fil = a.fil +ℤ b.fil; fill = a.fill +ℤ b.fill; filll = a.filll +ℤ b.filll }

abbrev pub sums_plus : Sums → Sums → Sums
sums_plus a b = record { width = a.width +ℤ b.width; stretch = stretch_plus a.stretch b.stretch; shrink = a.shrink +ℤ b.shrink }

-- the sums with a further width
abbrev pub sums_wider : Sums → ℤ → Sums
sums_wider sums width = record { width = sums.width +ℤ width; stretch = sums.stretch; shrink = sums.shrink }

-- each sum is at most this in absolute value
pub record IsStretchWithin (bound : ℕ) (stretch : GlueStretch) : Type 0 where
  pub normal : unsigned_abs stretch.normal ≤ bound
  pub fil : unsigned_abs stretch.fil ≤ bound
  pub fill : unsigned_abs stretch.fill ≤ bound
  pub filll : unsigned_abs stretch.filll ≤ bound

pub record AreSumsWithin (bound : ℕ) (sums : Sums) : Type 0 where
  pub width : unsigned_abs sums.width ≤ bound
  pub stretch : IsStretchWithin bound sums.stretch
  pub shrink : unsigned_abs sums.shrink ≤ bound
