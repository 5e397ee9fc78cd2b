-- How far the nodes of a list stand from one another.
use Rattle.std.proofs.Common.{◌≡◌, ℕ, ◌+◌, ◌*◌, ◌≤◌, ◌<◌, ◌^◌, ℤ, pos, neg_ℤ, ◌+ℤ◌, Bool, true, false, cond, List, length, take, get_or, subst, sym, ap, refl, arith}
use Rattle.std.specs.Prelude.{nat_eq}
use Rattle.std.specs.List.{sum_by}
use Rattle.std.specs.Int.RustNames.{unsigned_abs}
use Rattle.std.proofs.lemmas.Int.{ints}
use Rattle.std.proofs.lemmas.List.Sums.{sum_by_more, sum_by-take-le}
use Rattle.ntx_item.specs.declared.item.Item.{Item}
use Rattle.ntx_item.specs.declared.item.Item.TheVariants.{Box, Glyph, Rule, Glue, Kern, Penalty, Disc}
use Rattle.ntx_item.specs.declared.glue.GlueSpec.{GlueSpec}
use Rattle.ntx_item.specs.Items.{absolute_width, AreItemsInRange, max_total}
use Rattle.ntx_item.specs.declared.glue_change.GlueChange.{GlueChange}
use Rattle.ntx_item.specs.declared.glue_change.GlueChange.TheVariants.{Stretch, Shrink}
use Rattle.ntx_item.specs.Sums.{amount_in}
use Rattle.ntx_pack.specs.declared.direction.Direction.{Direction}
use Rattle.ntx_pack.specs.declared.direction.Direction.TheVariants.{Horizontal, Vertical}
use Rattle.ntx_pack.specs.declared.glue_set.GlueSet.{GlueSet}
use Rattle.ntx_pack.specs.Output.{move, running}
use Rattle.ntx_pack.specs.Laws.{IsGlue}
use Rattle.ntx_pack.proofs.OutputLemmas.{running_in_range}
use Rattle.ntx_pack.proofs.TotalLemmas.{sum_more}
use Rattle.ntx_ship.specs.declared.place.Place.{Place}
use Rattle.ntx_ship.specs.Placed.{own_size, moved}
use Rattle.ntx_ship.specs.inner.Reach.{IsPlaced}

-- one place less far is a place as far
pub is_placed : (most more : ℕ) (here : Place) → IsPlaced most here → most ≤ more → IsPlaced more here
is_placed most more here p le =
    let h : unsigned_abs here.h ≤ most = p.h in
    let v : unsigned_abs here.v ≤ most = p.v in
    record { h = omega arith; v = omega arith }

sum_abs : (a b : ℤ) (m n k : ℕ) → unsigned_abs a ≤ m → unsigned_abs b ≤ n → m + n ≤ k → unsigned_abs (a +ℤ b) ≤ k
sum_abs a b m n k p q r = omega (arith, ints)

-- a place after a node of this size
pub moved_within : (direction : Direction) (size : ℤ) (here : Place) (m n k : ℕ) → IsPlaced m here → unsigned_abs size ≤ n → m + n ≤ k → IsPlaced k (moved direction size here)
moved_within Horizontal size here m n k p s le =
    let v : unsigned_abs here.v ≤ m = p.v in
    record { h = sum_abs here.h size m n k p.h s le; v = omega arith }
moved_within Vertical size here m n k p s le =
    let h : unsigned_abs here.h ≤ m = p.h in
    record { h = omega arith; v = sum_abs here.v size m n k p.v s le }

-- ---- running totals

pub running_more : (glue : GlueSet) (items : List Item) (i : ℕ) (d : Item) → i < length items → running glue (take (i + 1) items) ≡ running glue (take i items) +ℤ move glue (get_or items i d)
running_more glue items i d lt = sum_more (move glue) items i d lt

pub total_within : (glue : GlueSet) (items : List Item) (i : ℕ) (d : Item) (total : ℤ) → i < length items → AreItemsInRange items → total ≡ running glue (take i items) → unsigned_abs (total +ℤ move glue (get_or items i d)) ≤ max_total
total_within glue items i d total lt r e =
    subst (λ (x : ℤ). unsigned_abs (x +ℤ move glue (get_or items i d)) ≤ max_total) (sym e)
    (subst (λ (x : ℤ). unsigned_abs x ≤ max_total) (running_more glue items i d lt) (running_in_range glue items (i + 1) r))

-- ---- widths so far

-- as far can the first nodes of a list reach
abbrev pub so_far : List Item → ℕ → ℕ
so_far items i = sum_by absolute_width (take i items) + i * 2 ^ 32

so_far_more : (items : List Item) (i : ℕ) (d : Item) → i < length items → so_far items i + (absolute_width (get_or items i d) + 2 ^ 32) ≡ so_far items (i + 1)
so_far_more items i d lt = omega (arith, sum_by_more absolute_width items i d lt)

-- They reach no farther than a list may.
pub so_far_within : (items : List Item) (i : ℕ) → i ≤ length items → AreItemsInRange items → so_far items i ≤ 2 ^ 51
so_far_within items i le r =
    let widths : sum_by absolute_width items ≤ 2 ^ 48 = r.widths in
    let count : length items ≤ 2 ^ 18 = r.count in
    let few : sum_by absolute_width (take i items) ≤ sum_by absolute_width items = sum_by-take-le absolute_width items i in
    omega (arith, widths, count, few, le)

-- one node more
pub nearer : (direction : Direction) (items : List Item) (i : ℕ) (d : Item) (most : ℕ) (size : ℤ) (here new_here : Place) → i < length items → IsPlaced (most + so_far items i) here → unsigned_abs size ≤ absolute_width (get_or items i d) + 2 ^ 32 → new_here ≡ moved direction size here → IsPlaced (most + so_far items (i + 1)) new_here
nearer direction items i d most size here new_here lt near bounded is =
    subst (IsPlaced (most + so_far items (i + 1))) (sym is)
    (moved_within direction size here (most + so_far items i) (absolute_width (get_or items i d) + 2 ^ 32) (most + so_far items (i + 1)) near bounded (omega (arith, so_far_more items i d lt)))

pub near_enough : (items : List Item) (i most : ℕ) (here : Place) → i ≤ length items → AreItemsInRange items → IsPlaced (most + so_far items i) here → IsPlaced (most + 2 ^ 51) here
near_enough items i most here le r near = is_placed (most + so_far items i) (most + 2 ^ 51) here near (omega (arith, so_far_within items i le r))

-- ---- sizes

pub glue_size : (direction : Direction) (spec : GlueSpec) → own_size direction (Glue spec) ≡ spec.width
glue_size Horizontal spec = refl
glue_size Vertical spec = refl

-- ---- items other than glue

pub no_glue : (item : Item) → ((spec : GlueSpec) → item ≡ Glue spec → ⊥) → ¬ IsGlue item
no_glue (Glue spec) h = λ g. h spec refl
no_glue (Box size shift) h = λ g. g
no_glue (Glyph size) h = λ g. g
no_glue (Rule size) h = λ g. g
no_glue (Kern w font) h = λ g. g
no_glue (Penalty p) h = λ g. g
no_glue (Disc pre post replace pre_empty post_empty regular) h = λ g. g

no_amount : (change : GlueChange) (order : ℕ) (item : Item) → ¬ IsGlue item → amount_in change order item ≡ pos 0
no_amount change order (Glue spec) h = absurd (h tt)
no_amount change order (Box size shift) h = refl
no_amount change order (Glyph size) h = refl
no_amount change order (Rule size) h = refl
no_amount change order (Kern w font) h = refl
no_amount change order (Penalty p) h = refl
no_amount change order (Disc pre post replace pre_empty post_empty regular) h = refl

no_move_by : (one two : Bool) (x y : ℤ) → x ≡ pos 0 → y ≡ pos 0 → cond one x (cond two (neg_ℤ y) (pos 0)) ≡ pos 0
no_move_by true two x y p q = p
no_move_by false true x y p q = ap neg_ℤ q
no_move_by false false x y p q = refl

unmoved : (total m : ℤ) → m ≡ pos 0 → total ≡ total +ℤ m
unmoved total m e = omega (arith, ints)

-- They leave the running total as it is, and have their own size.
pub total_stays : (glue : GlueSet) (total : ℤ) (item : Item) → ¬ IsGlue item → total ≡ total +ℤ move glue item
total_stays glue total item h =
    unmoved total (move glue item)
    (no_move_by (nat_eq glue.sign 1) (nat_eq glue.sign 2) (amount_in Stretch glue.order item) (amount_in Shrink glue.order item) (no_amount Stretch glue.order item h) (no_amount Shrink glue.order item h))
