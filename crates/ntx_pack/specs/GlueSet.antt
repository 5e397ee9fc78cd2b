-- How the glue of a box is set ("TeX: The Program", sections 135, 658 to 667 and 672 to 677), with exact fractions in place of floating point
-- numbers. The shortfall is the size that a box is to have, less the natural size of its list.
--     glue_set items x         how the glue makes up for the shortfall x
--     badness_for items x      how bad that is: from 0 to 10000, and 1000000 of an overfull box; 0 of an empty list
--     glue_set_answer n heap   how the glue of a box of a heap is set
--     is_overfull items x      whether it is overfull: its glue is finite, shrinks by all it can, and that is too little
use Rattle.std.specs.Prelude.{ℕ, zero, ℤ, pos, neg_ℤ, int_lt, unsigned_abs, nat_eq, Bool, false, ◌&&◌, if◌then◌else◌, List, [], Result, Ok, Err}
use Rattle.ntx_num.specs.Badness.{badness_of}
use Rattle.ntx_num.specs.Ratio.{with_sign_of}
use Rattle.ntx_nodes.specs.Heap.{Heap}
use Rattle.ntx_nodes.specs.Steps.{at}
use Rattle.ntx_nodes.specs.declared.contents.BoxFields.{BoxFields}
use Rattle.ntx_nodes.specs.declared.fields.Contents.{Contents}
use Rattle.ntx_nodes.specs.declared.fields.Contents.TheVariants as contents
use Rattle.ntx_nodes.specs.declared.trouble.Trouble.{Trouble}
use Rattle.ntx_nodes.specs.declared.trouble.Trouble.TheVariants.{WrongKind}
use Rattle.ntx_item.specs.declared.item.Item.{Item}
use Rattle.ntx_item.specs.declared.glue_change.GlueChange.{GlueChange}
use Rattle.ntx_item.specs.declared.glue_change.GlueChange.TheVariants.{Stretch, Shrink}
use Rattle.ntx_pack.specs.declared.glue_set.GlueSet.{GlueSet}
use Rattle.ntx_pack.specs.Totals.{highest_order}
use Rattle.ntx_item.specs.Sums.{glue_total, change_for}

-- the order of the glue that changes, and how far all glue of that order can
abbrev pub order_for : List Item → ℤ → ℕ
order_for items x = highest_order (change_for x) items

abbrev pub total_for : List Item → ℤ → ℤ
total_for items x = glue_total (change_for x) (order_for items x) items

abbrev pub sign_of : GlueChange → ℕ
sign_of Stretch = 1
sign_of Shrink = 2

-- glue that keeps its natural size
abbrev pub unset : GlueSet
unset = record { sign = 0; order = 0; num = pos 0; den = pos 1 }

-- Glue that changes by the ratio x / total, with a positive denominator; where the total is 0, it keeps its size.
abbrev pub shared : GlueChange → ℕ → ℕ → ℤ → GlueSet
shared change order x (pos zero) = unset
shared change order x total = record { sign = sign_of change; order = order; num = with_sign_of total x; den = pos (unsigned_abs total) }

-- glue that shrinks by all it can, where there is some
abbrev pub fully : ℤ → GlueSet
fully (pos zero) = unset
fully total = record { sign = 2; order = 0; num = pos 1; den = pos 1 }

-- ---- glue of one order with this total, for a shortfall of x

abbrev pub is_overfull_by : ℤ → ℕ → ℤ → Bool
is_overfull_by x order total = int_lt x (pos 0) && nat_eq order 0 && int_lt total (neg_ℤ x)

abbrev pub glue_set_by : ℤ → ℕ → ℤ → GlueSet
glue_set_by (pos zero) order total = unset
glue_set_by x order total = if is_overfull_by x order total then fully total else shared (change_for x) order (unsigned_abs x) total

-- Infinite glue makes up for every shortfall.
abbrev pub badness_by : ℤ → ℕ → ℤ → ℕ
badness_by x order total = if is_overfull_by x order total then 1000000 else if nat_eq order 0 then badness_of (unsigned_abs x) total else 0

-- ---- the glue of a list

-- An empty list never is.
abbrev pub is_overfull : List Item → ℤ → Bool
is_overfull [] x = false
is_overfull items x = is_overfull_by x (order_for items x) (total_for items x)

abbrev pub glue_set : List Item → ℤ → GlueSet
glue_set items x = glue_set_by x (order_for items x) (total_for items x)

-- An empty list is never bad.
abbrev pub badness_for : List Item → ℤ → ℕ
badness_for [] x = 0
badness_for items x = badness_by x (order_for items x) (total_for items x)

-- ---- a box of a heap

-- how the glue of a box is set, as its fields say it
abbrev pub glue_set_in : BoxFields → GlueSet
glue_set_in b = record { sign = b.glue_sign; order = b.glue_order; num = b.glue_num; den = b.glue_den }

abbrev pub box_glue : ℕ → Contents → Result GlueSet Trouble
box_glue n (contents.Hlist b) = Ok (glue_set_in b)
box_glue n (contents.Vlist b) = Ok (glue_set_in b)
box_glue n _ = Err (WrongKind n)

-- of the node of this name: it has to be live and a box
abbrev pub glue_set_answer : ℕ → Heap → Result GlueSet Trouble
glue_set_answer n heap = at heap n (λ node. box_glue n node.fields.contents)
