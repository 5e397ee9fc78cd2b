-- What packing decides of items.
use Rattle.std.proofs.Common.{◌≡◌, ℕ, ◌≤◌, ℤ, pos, ◌+ℤ◌, ◌-ℤ◌, List, [], ◌∷◌, Bool, true, false, cond, Ok, subst, refl, sym, ◌∙◌, ap, arith}
use Rattle.std.specs.Prelude.{nat_eq, ◌≢◌, ◌&&◌}
use Rattle.std.specs.Int.RustNames.{unsigned_abs}
use Rattle.std.proofs.lemmas.Int.{ints}
use Rattle.ntx_num.specs.Answer.{result_map}
use Rattle.ntx_num.specs.declared.size.Size.{Size}
use Rattle.ntx_nodes.specs.declared.trouble.Trouble.{Trouble}
use Rattle.ntx_num.proofs.Answers.{same_Ok, went_Ok, mapped_Ok, taken}
use Rattle.ntx_item.specs.declared.item.Item.{Item}
use Rattle.ntx_item.specs.declared.pack_to.PackTo.{PackTo}
use Rattle.ntx_item.specs.Sums.{signed_sum}
use Rattle.ntx_view.specs.Natural.{hlist_size}
use Rattle.ntx_item.specs.Sums.{natural_width}
use Rattle.ntx_pack.specs.declared.direction.Direction.{Direction}
use Rattle.ntx_pack.specs.declared.direction.Direction.TheVariants.{Horizontal, Vertical}
use Rattle.ntx_pack.specs.declared.packed.Packed.{Packed}
use Rattle.ntx_pack.specs.declared.glue_set.GlueSet.{GlueSet}
use Rattle.ntx_pack.specs.Vertical.{extent, vlist_depth, vlist_size}
use Rattle.ntx_pack.specs.GlueSet.{order_for, total_for, is_overfull_by, is_overfull, glue_set, badness_for}
use Rattle.ntx_pack.specs.Output.{set_sizes, set_widths, set_heights, sum_of}
use Rattle.ntx_pack.specs.Pack.{checked_size, natural_size, along, with_along, target_size, packed_into, packed}
use Rattle.ntx_num.specs.Dimension.{is_dimension}
use Rattle.ntx_pack.specs.Laws.{IsNatural}
use Rattle.ntx_pack.proofs.GlueLemmas.{set_sizes_add_up_lem}

same_size : (size found : Size) → checked_size size ≡ Ok found → size ≡ found
same_size size found e =
    let t = taken ((is_dimension size.w && is_dimension size.h) && is_dimension size.d) _ (Ok size) found e in
    same_Ok {E = Trouble} size found t.1

-- ---- size, glue and badness of a box
pub record IsDecided (direction : Direction) (to : PackTo) (items : List Item) (box : Packed) : Type 0 where
  pub size : box.size ≡ with_along direction (target_size to (along direction (natural_size direction items))) (natural_size direction items)
  pub glue : box.glue ≡ glue_set items (along direction box.size -ℤ along direction (natural_size direction items))
  pub badness : box.badness ≡ pos (badness_for items (along direction box.size -ℤ along direction (natural_size direction items)))

decided_from : (direction : Direction) (to : PackTo) (items : List Item) (natural size : Size) (box : Packed) → natural_size direction items ≡ natural → with_along direction (target_size to (along direction natural)) natural ≡ size
    → packed_into direction items natural size ≡ box → IsDecided direction to items box
decided_from direction to items natural size box n s e =
    let b : box.size ≡ size = ap (λ (x : Packed). x.size) (sym e) in
    let short : along direction size -ℤ along direction natural ≡ along direction box.size -ℤ along direction (natural_size direction items) = λ j. along direction (sym b j) -ℤ along direction (sym n j) in
    record {
      size = b ∙ sym s ∙ (λ j. with_along direction (target_size to (along direction (sym n j))) (sym n j));
      glue = ap (λ (x : Packed). x.glue) (sym e) ∙ ap (glue_set items) short;
      badness = ap (λ (x : Packed). x.badness) (sym e) ∙ ap (λ x. pos (badness_for items x)) short;
    }

pub decided : (direction : Direction) (to : PackTo) (items : List Item) (box : Packed) → packed direction to items ≡ Ok box → IsDecided direction to items box
decided direction to items box e =
    let first = went_Ok (λ natural. result_map (packed_into direction items natural) (checked_size (with_along direction (target_size to (along direction natural)) natural))) (checked_size (natural_size direction items)) box e in
    let natural : Size = first.value in
    let second = mapped_Ok (packed_into direction items natural) (checked_size (with_along direction (target_size to (along direction natural)) natural)) box first.gives in
    decided_from direction to items natural second.value box (same_size (natural_size direction items) natural first.is) (same_size (with_along direction (target_size to (along direction natural)) natural) second.value second.is) second.gives

-- ---- a box of natural size
with_own : (direction : Direction) (size : Size) → with_along direction (along direction size) size ≡ size
with_own Horizontal size = refl
with_own Vertical size = refl

same_branch : (b : Bool) → ◌≡◌ {A = ℕ} (cond b 0 0) 0
same_branch true = refl
same_branch false = refl

never_bad : (items : List Item) → badness_for items (pos 0) ≡ 0
never_bad [] = refl
never_bad (x ∷ xs) = same_branch (nat_eq (order_for (x ∷ xs) (pos 0)) 0)

minus_same : (a b : ℤ) → a ≡ b → a -ℤ b ≡ pos 0
minus_same a b e = omega (arith, ints)

-- where the size aimed at is the natural one
pub unset_if : (direction : Direction) (to : PackTo) (items : List Item) (box : Packed) → target_size to (along direction (natural_size direction items)) ≡ along direction (natural_size direction items) → packed direction to items ≡ Ok box → IsNatural direction items box
unset_if direction to items box wish e =
    let n : Size = natural_size direction items in
    let is = decided direction to items box e in
    let size : box.size ≡ n = is.size ∙ ap (λ x. with_along direction x n) wish ∙ with_own direction n in
    let short : along direction box.size -ℤ along direction n ≡ pos 0 = minus_same (along direction box.size) (along direction n) (ap (along direction) size) in
    record { size = size; glue = is.glue ∙ ap (glue_set items) short; badness = is.badness ∙ ap (λ x. pos (badness_for items x)) short ∙ ap pos (never_bad items) }

-- ---- a box in output
branch_false : (b : Bool) (n : ℕ) → (pos (cond b 1000000 n) ≢ pos 1000000) → b ≡ false
branch_false true n h = absurd (h refl)
branch_false false n h = refl

not_overfull : (items : List Item) (x : ℤ) → pos (badness_for items x) ≢ pos 1000000 → is_overfull items x ≡ false
not_overfull [] x h = refl
not_overfull (i ∷ is) x h = branch_false (is_overfull_by x (order_for (i ∷ is) x) (total_for (i ∷ is) x)) _ h

-- the sizes of a box's items, if glue makes up for the shortfall
filled : (direction : Direction) (to : PackTo) (items : List Item) (box : Packed) (size : Item → ℤ) → packed direction to items ≡ Ok box → box.glue.sign ≢ 0 → box.badness ≢ pos 1000000
    → unsigned_abs (along direction box.size -ℤ along direction (natural_size direction items)) ≤ 1000000000
    → sum_of (set_sizes size box.glue (pos 0) items) ≡ signed_sum size items +ℤ (along direction box.size -ℤ along direction (natural_size direction items))
filled direction to items box size e sign badness small =
    let x : ℤ = along direction box.size -ℤ along direction (natural_size direction items) in
    let is = decided direction to items box e in
    let bad : pos (badness_for items x) ≢ pos 1000000 = subst (λ b. b ≢ pos 1000000) is.badness badness in
    let signed : (glue_set items x).sign ≢ 0 = subst (λ (g : GlueSet). g.sign ≢ 0) is.glue sign in
    subst (λ (g : GlueSet). sum_of (set_sizes size g (pos 0) items) ≡ signed_sum size items +ℤ x) (sym is.glue) (set_sizes_add_up_lem size items x signed (not_overfull items x bad) small)

back : (w x : ℤ) → w +ℤ (x -ℤ w) ≡ x
back w x = omega (arith, ints)

pub widths_filled : (to : PackTo) (items : List Item) (box : Packed) → packed Horizontal to items ≡ Ok box → box.glue.sign ≢ 0 → box.badness ≢ pos 1000000
    → unsigned_abs (box.size.w -ℤ (hlist_size items).w) ≤ 1000000000 → sum_of (set_widths box.glue items) ≡ box.size.w
widths_filled to items box e sign badness small = filled Horizontal to items box natural_width e sign badness small ∙ back (signed_sum natural_width items) box.size.w

above : (e d h : ℤ) → e +ℤ (h -ℤ (e -ℤ d)) ≡ h +ℤ d
above e d h = omega (arith, ints)

pub heights_filled : (to : PackTo) (items : List Item) (box : Packed) → packed Vertical to items ≡ Ok box → box.glue.sign ≢ 0 → box.badness ≢ pos 1000000
    → unsigned_abs (box.size.h -ℤ (vlist_size items).h) ≤ 1000000000 → sum_of (set_heights box.glue items) ≡ box.size.h +ℤ box.size.d
heights_filled to items box e sign badness small =
    let is = decided Vertical to items box e in
    let depth : box.size.d ≡ vlist_depth items = ap (λ (s : Size). s.d) is.size in
    filled Vertical to items box extent e sign badness small ∙ above (signed_sum extent items) (vlist_depth items) box.size.h ∙ ap (λ d. box.size.h +ℤ d) (sym depth)
