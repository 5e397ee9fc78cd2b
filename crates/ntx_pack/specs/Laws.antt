-- Laws of packing ("TeX: The Program", sections 625, 634 and 649 to 679).
--     VerticalListsStack       the height and depth of a vertical list grow as TeX builds them
--     BoxesAreSized            a box has the size that was asked for, and its other two sizes from its list
--     NaturalBoxesAreUnset     a box of the natural size of its list leaves its glue alone
--     SetSizesGrow             in output an item more at the end has its size from the running total before it
--     SetSizesAddUp            in output items are together larger by the shortfall, where glue makes up for it, of at most 10^9
--     BoxesAreFilled           so the items of a box fill it
--     OverfullBoxesShrinkFully in an overfull box they are smaller by all that its glue can shrink
--     OtherSizesStay           in output only glue changes its size, and none where it is not set
--     TotalsStayBounded        the running totals of output stay in range
--     BoxesHoldTheirLists      a packed box is as its list is packed, and holds that list
use Rattle.std.specs.Prelude.{◌≡◌, ◌≢◌, ◌≤◌, ℕ, ℤ, pos, neg_ℤ, ◌+ℤ◌, ◌-ℤ◌, unsigned_abs, true, false, List, [], ◌∷◌, ◌++◌, map, take, Option, Some, Ok}
use Rattle.std.specs.FinMap as fin
use Rattle.ntx_nodes.specs.Heap.{Heap, IsLawful}
use Rattle.ntx_tfm.specs.Font.{FontTables}
use Rattle.ntx_item.specs.declared.item.Item.{Item}
use Rattle.ntx_item.specs.declared.item.Item.TheVariants.{Glue}
use Rattle.ntx_item.specs.declared.pack_to.PackTo.{PackTo}
use Rattle.ntx_item.specs.declared.pack_to.PackTo.TheVariants.{Exactly, Additional}
use Rattle.ntx_item.specs.Items.{AreItemsInRange, max_total}
use Rattle.ntx_item.specs.Sums.{signed_sum}
use Rattle.ntx_view.specs.Natural.{hlist_size}
use Rattle.ntx_view.specs.View.{items_answer}
use Rattle.ntx_pack.specs.declared.direction.Direction.{Direction}
use Rattle.ntx_pack.specs.declared.direction.Direction.TheVariants.{Horizontal, Vertical}
use Rattle.ntx_pack.specs.declared.packed.Packed.{Packed}
use Rattle.ntx_pack.specs.declared.glue_set.GlueSet.{GlueSet}
use Rattle.ntx_pack.specs.Vertical.{vlist_size, stacked}
use Rattle.ntx_pack.specs.GlueSet.{total_for, glue_set, is_overfull, unset}
use Rattle.ntx_pack.specs.Output.{running, set_size, set_sizes, set_widths, set_heights, sum_of}
use Rattle.ntx_pack.specs.Pack.{natural_size, along, with_along, target_size, packed, box_node, list_kind, pack_step}

-- ---- sizes

abbrev pub VerticalListsStack : Type 0
VerticalListsStack = (items : List Item) (item : Item) → vlist_size (items ++ item ∷ []) ≡ stacked (vlist_size items) item

abbrev pub BoxesAreSized : Type 0
BoxesAreSized = (direction : Direction) (to : PackTo) (items : List Item) (box : Packed) → packed direction to items ≡ Ok box →
    box.size ≡ with_along direction (target_size to (along direction (natural_size direction items))) (natural_size direction items)

pub record IsNatural (direction : Direction) (items : List Item) (box : Packed) : Type 0 where
  pub size : box.size ≡ natural_size direction items
  pub glue : box.glue ≡ unset
  pub badness : box.badness ≡ pos 0

-- whether that size is given or nothing is added to it
pub record NaturalBoxesAreUnset : Type 0 where
  pub exactly : (direction : Direction) (items : List Item) (box : Packed) → packed direction (Exactly (along direction (natural_size direction items))) items ≡ Ok box → IsNatural direction items box
  pub additional : (direction : Direction) (items : List Item) (box : Packed) → packed direction (Additional (pos 0)) items ≡ Ok box → IsNatural direction items box

-- ---- output

-- One item more at the end, from any running total on.
abbrev pub SetSizesGrow : Type 0
SetSizesGrow = (size : Item → ℤ) (glue : GlueSet) (g : ℤ) (items : List Item) (item : Item) →
    set_sizes size glue g (items ++ item ∷ []) ≡ set_sizes size glue g items ++ set_size glue (g +ℤ running glue items) (size item) item ∷ []

-- Whatever sizes the items have of their own, in output they are together larger by the shortfall, if some glue makes up for it. A shortfall above
-- 10 ^ 9, where rounded multiples are cut off, is not spoken of.
abbrev pub SetSizesAddUp : Type 0
SetSizesAddUp = (size : Item → ℤ) (items : List Item) (x : ℤ) → (glue_set items x).sign ≢ 0 → is_overfull items x ≡ false → unsigned_abs x ≤ 1000000000 →
    sum_of (set_sizes size (glue_set items x) (pos 0) items) ≡ signed_sum size items +ℤ x

-- The same of a box: the widths of an hlist's items are its width, and the heights and depths of a vlist's are its height and depth. A box whose
-- glue is set is overfull exactly if its badness is 1000000.
pub record BoxesAreFilled : Type 0 where
  pub widths : (to : PackTo) (items : List Item) (box : Packed) → packed Horizontal to items ≡ Ok box → box.glue.sign ≢ 0 → box.badness ≢ pos 1000000
      → unsigned_abs (box.size.w -ℤ (hlist_size items).w) ≤ 1000000000 → sum_of (set_widths box.glue items) ≡ box.size.w
  pub heights : (to : PackTo) (items : List Item) (box : Packed) → packed Vertical to items ≡ Ok box → box.glue.sign ≢ 0 → box.badness ≢ pos 1000000
      → unsigned_abs (box.size.h -ℤ (vlist_size items).h) ≤ 1000000000 → sum_of (set_heights box.glue items) ≡ box.size.h +ℤ box.size.d

-- Of an overfull box, the glue of which cannot shrink enough.
abbrev pub OverfullBoxesShrinkFully : Type 0
OverfullBoxesShrinkFully = (size : Item → ℤ) (items : List Item) (x : ℤ) → is_overfull items x ≡ true → unsigned_abs (total_for items x) ≤ 1000000000 →
    sum_of (set_sizes size (glue_set items x) (pos 0) items) ≡ signed_sum size items +ℤ neg_ℤ (total_for items x)

abbrev pub IsGlue : Item → Type 0
IsGlue (Glue spec) = Unit {0}
IsGlue _ = ⊥

pub record OtherSizesStay : Type 0 where
  pub unset : (size : Item → ℤ) (glue : GlueSet) (g : ℤ) (items : List Item) → glue.sign ≡ 0 → set_sizes size glue g items ≡ map size items
  pub others : (glue : GlueSet) (g size : ℤ) (item : Item) → ¬ IsGlue item → set_size glue g size item ≡ size

abbrev pub TotalsStayBounded : Type 0
TotalsStayBounded = (glue : GlueSet) (items : List Item) (k : ℕ) → AreItemsInRange items → unsigned_abs (running glue (take k items)) ≤ max_total

-- ---- heaps

-- The box stands in the new heap, as its list's items are packed and over that list, and the list has the items that it had.
pub record HoldsItsList (direction : Direction) (fonts : List FontTables) (head : Option ℕ) (to : PackTo) (heap new : Heap) (n : ℕ) (badness : ℤ) : Type 0 where
  pub items : List Item
  pub box : Packed
  pub before : items_answer heap fonts head (list_kind direction) ≡ Ok items
  pub decided : packed direction to items ≡ Ok box
  pub badness_is : badness ≡ box.badness
  pub made : fin.get new.nodes n ≡ Some (box_node direction head box)
  pub after : items_answer new fonts head (list_kind direction) ≡ Ok items

abbrev pub BoxesHoldTheirLists : Type 0
BoxesHoldTheirLists = (direction : Direction) (fonts : List FontTables) (head : Option ℕ) (to : PackTo) (heap new : Heap) (n : ℕ) (badness : ℤ) → IsLawful heap → pack_step direction fonts head to heap ≡ Ok ((n, badness), new) →
    HoldsItsList direction fonts head to heap new n badness
