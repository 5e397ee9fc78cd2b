-- The natural size of a vertical list of items ("TeX: The Program", sections 668 to 671).
--     vlist_size items         that size
--     stacked size item        the size of a list of this size with one item more
--     interline_glue ..        the glue between two boxes of a vertical list
-- Its height and depth together are the heights and depths of its boxes and rules and the sizes of its glue and kerns. Its depth is that of the
-- last box or rule, or 0 where there is none or where glue or a kern stands after it. It is as wide as its items reach to the right of its left edge, and no less than 0.
-- Glyphs and discretionaries, which no vertical list holds, count as penalties do.
use Rattle.std.specs.Prelude.{ℤ, pos, ◌+ℤ◌, ◌-ℤ◌, int_lt, if◌then◌else◌, List, fold}
use Rattle.std.specs.Int.{int_max}
use Rattle.ntx_num.specs.declared.size.Size.{Size}
use Rattle.ntx_item.specs.Settings.{Settings}
use Rattle.ntx_item.specs.declared.glue.GlueSpec.{GlueSpec}
use Rattle.ntx_item.specs.declared.item.Item.{Item}
use Rattle.ntx_item.specs.declared.item.Item.TheVariants.{Box, Rule, Glue, Kern}
use Rattle.ntx_item.specs.Sums.{signed_sum}
use Rattle.ntx_view.specs.Natural.{greatest}

-- how far an item reaches from its top to its bottom
abbrev pub extent : Item → ℤ
extent (Box size shift) = size.h +ℤ size.d
extent (Rule size) = size.h +ℤ size.d
extent (Glue spec) = spec.width
extent (Kern w font) = w
extent _ = pos 0

-- how far it reaches to the right of the left edge; a box is moved to the right by its shift
abbrev pub reach_right : Item → ℤ
reach_right (Box size shift) = size.w +ℤ shift
reach_right (Rule size) = size.w
reach_right _ = pos 0

-- the depth of a list that ends with this item, where it was this before
abbrev pub depth_after : ℤ → Item → ℤ
depth_after before (Box size shift) = size.d
depth_after before (Rule size) = size.d
depth_after before (Glue spec) = pos 0
depth_after before (Kern w font) = pos 0
depth_after before _ = before

abbrev pub vlist_depth : List Item → ℤ
vlist_depth items = fold depth_after (pos 0) items

abbrev pub vlist_size : List Item → Size
vlist_size items = record { w = greatest reach_right items; h = signed_sum extent items -ℤ vlist_depth items; d = vlist_depth items }

-- The size of a list with one item more, as TeX builds it: a box or a rule adds the depth so far and its height to the height, and its depth is
-- the depth then; glue and kerns add the depth so far and their size, and leave no depth.
abbrev pub stacked : Size → Item → Size
stacked size (Box box shift) = record { w = int_max size.w (box.w +ℤ shift); h = (size.h +ℤ size.d) +ℤ box.h; d = box.d }
stacked size (Rule rule) = record { w = int_max size.w rule.w; h = (size.h +ℤ size.d) +ℤ rule.h; d = rule.d }
stacked size (Glue spec) = record { w = size.w; h = (size.h +ℤ size.d) +ℤ spec.width; d = pos 0 }
stacked size (Kern w font) = record { w = size.w; h = (size.h +ℤ size.d) +ℤ w; d = pos 0 }
stacked size _ = size

-- ---- between two boxes

-- The glue between a box of this depth and one of this height below it ("TeX: The Program", section 679): as much as makes the distance of their
-- baselines the width of baselineskip, or lineskip if that is less than lineskiplimit.
abbrev pub interline_glue : Settings → ℤ → ℤ → GlueSpec
interline_glue s depth height =
    let distance = (s.baselineskip.width -ℤ depth) -ℤ height in
    if int_lt distance s.lineskiplimit then s.lineskip else record s.baselineskip { width = distance }
