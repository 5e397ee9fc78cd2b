-- The sums of lists that stand together, and of the parts of a line.
use Rattle.std.proofs.Common.{◌≡◌, ℕ, ◌+◌, ◌-◌, ◌≤◌, ℤ, pos, ◌+ℤ◌, List, [], ◌∷◌, ◌++◌, Bool, true, false, cond, Option, Some, None, drop, refl, ap, sym, ◌∙◌, arith}
use Rattle.std.specs.Int.RustNames.{unsigned_abs}
use Rattle.std.specs.List.{prefix_len}
use Rattle.std.proofs.lemmas.Int.{ints}
use Rattle.ntx_item.proofs.ItemsLemmas.{parts_are_in_range}
use Rattle.ntx_item.proofs.SumLemmas.{signed_sum-append, absolute_sum}
use Rattle.ntx_item.specs.declared.item.Item.{Item}
use Rattle.ntx_item.specs.declared.item.Item.TheVariants.{Box, Glyph, Rule, Glue, Kern, Penalty, Disc}
use Rattle.ntx_item.specs.declared.glue_change.GlueChange.TheVariants.{Stretch}
use Rattle.ntx_item.specs.Items.{AreItemsInRange}
use Rattle.ntx_item.specs.Sums.{signed_sum, natural_width, amount_in}
use Rattle.ntx_legal.specs.Kept.{is_discardable, keeps_all, items_between, kept_items}
use Rattle.ntx_legal.specs.LineSums.{shrink_of, sums_of, sums_plus, sums_wider, AreSumsWithin}
use Rattle.ntx_legal.specs.Lines.{shown_after, shown_before}
use Rattle.ntx_legal.specs.declared.sums.Sums.{Sums}

-- the sums of two lists
pub sums_append : (items others : List Item) → sums_of (items ++ others) ≡ sums_plus (sums_of items) (sums_of others)
sums_append items others =
    let w : signed_sum natural_width (items ++ others) ≡ signed_sum natural_width items +ℤ signed_sum natural_width others = signed_sum-append natural_width items others in
    let a : signed_sum (amount_in Stretch 0) (items ++ others) ≡ signed_sum (amount_in Stretch 0) items +ℤ signed_sum (amount_in Stretch 0) others = signed_sum-append (amount_in Stretch 0) items others in
    let b : signed_sum (amount_in Stretch 1) (items ++ others) ≡ signed_sum (amount_in Stretch 1) items +ℤ signed_sum (amount_in Stretch 1) others = signed_sum-append (amount_in Stretch 1) items others in
    let e : signed_sum (amount_in Stretch 2) (items ++ others) ≡ signed_sum (amount_in Stretch 2) items +ℤ signed_sum (amount_in Stretch 2) others = signed_sum-append (amount_in Stretch 2) items others in
    let f : signed_sum (amount_in Stretch 3) (items ++ others) ≡ signed_sum (amount_in Stretch 3) items +ℤ signed_sum (amount_in Stretch 3) others = signed_sum-append (amount_in Stretch 3) items others in
    let s : signed_sum shrink_of (items ++ others) ≡ signed_sum shrink_of items +ℤ signed_sum shrink_of others = signed_sum-append shrink_of items others in
    λ j. record { width = w j; stretch = record { normal = a j; fil = b j; fill = e j; filll = f j }; shrink = s j }

pub plus_within : (m n : ℕ) (a b : Sums) → AreSumsWithin m a → AreSumsWithin n b → AreSumsWithin (m + n) (sums_plus a b)
plus_within m n a b h k = record {
  width = omega (arith, h.width, k.width, absolute_sum a.width b.width);
  stretch = record {
    normal = omega (arith, h.stretch.normal, k.stretch.normal, absolute_sum a.stretch.normal b.stretch.normal);
    fil = omega (arith, h.stretch.fil, k.stretch.fil, absolute_sum a.stretch.fil b.stretch.fil);
    fill = omega (arith, h.stretch.fill, k.stretch.fill, absolute_sum a.stretch.fill b.stretch.fill);
    filll = omega (arith, h.stretch.filll, k.stretch.filll, absolute_sum a.stretch.filll b.stretch.filll);
  };
  shrink = omega (arith, h.shrink, k.shrink, absolute_sum a.shrink b.shrink);
}

pub wider_within : (m n : ℕ) → m ≤ n → (sums : Sums) → AreSumsWithin m sums → AreSumsWithin n sums
wider_within m n le sums h = record {
  width = omega (arith, h.width);
  stretch = record {
    normal = omega (arith, h.stretch.normal);
    fil = omega (arith, h.stretch.fil);
    fill = omega (arith, h.stretch.fill);
    filll = omega (arith, h.stretch.filll);
  };
  shrink = omega (arith, h.shrink);
}

pub wide_within : (m n : ℕ) (sums : Sums) (width : ℤ) → AreSumsWithin m sums → unsigned_abs width ≤ n → AreSumsWithin (m + n) (sums_wider sums width)
wide_within m n sums width h le = record {
  width = omega (arith, h.width, le, absolute_sum sums.width width);
  stretch = record {
    normal = omega (arith, h.stretch.normal);
    fil = omega (arith, h.stretch.fil);
    fill = omega (arith, h.stretch.fill);
    filll = omega (arith, h.stretch.filll);
  };
  shrink = omega (arith, h.shrink);
}

-- the items of a line that count are in range
kept_by : (b : Bool) (items : List Item) → AreItemsInRange items → AreItemsInRange (cond b items (drop (prefix_len is_discardable items) items))
kept_by true items r = r
kept_by false items r = parts_are_in_range.rest items (prefix_len is_discardable items) r

pub kept_in_range : (items : List Item) (from to : ℕ) → AreItemsInRange items → AreItemsInRange (kept_items items from to)
kept_in_range items from to r =
    kept_by (keeps_all items from) (items_between items from to) (parts_are_in_range.front (drop from items) (to - from - 1) (parts_are_in_range.rest items from r))

moved : (l r a k b : ℤ) → l +ℤ (((a +ℤ k) +ℤ b) +ℤ r) ≡ ((l +ℤ r) +ℤ k) +ℤ (a +ℤ b)
moved l r a k b = omega (arith, ints)

no_more : (x a b : ℤ) → a ≡ pos 0 → b ≡ pos 0 → x +ℤ (a +ℤ b) ≡ x
no_more x a b e d = omega (arith, ints)

-- the parts of a line, in another order
pub parts_sum : (f : Item → ℤ) (l r : Item) (a k b : List Item) →
    signed_sum f (l ∷ a ++ k ++ b ++ r ∷ []) ≡ (signed_sum f (l ∷ r ∷ []) +ℤ signed_sum f k) +ℤ (signed_sum f a +ℤ signed_sum f b)
parts_sum f l r a k b =
    let whole : signed_sum f (l ∷ a ++ k ++ b ++ r ∷ []) ≡ signed_sum f (l ∷ []) +ℤ signed_sum f (a ++ k ++ b ++ r ∷ []) = signed_sum-append f (l ∷ []) (a ++ k ++ b ++ r ∷ []) in
    let but_r : signed_sum f (a ++ k ++ b ++ r ∷ []) ≡ signed_sum f (a ++ k ++ b) +ℤ signed_sum f (r ∷ []) = signed_sum-append f (a ++ k ++ b) (r ∷ []) in
    let but_b : signed_sum f (a ++ k ++ b) ≡ signed_sum f (a ++ k) +ℤ signed_sum f b = signed_sum-append f (a ++ k) b in
    let both : signed_sum f (l ∷ r ∷ []) ≡ signed_sum f (l ∷ []) +ℤ signed_sum f (r ∷ []) = signed_sum-append f (l ∷ []) (r ∷ []) in
    whole
    ∙ ap (λ x. signed_sum f (l ∷ []) +ℤ x) (but_r ∙ ap (λ x. x +ℤ signed_sum f (r ∷ [])) (but_b ∙ ap (λ x. x +ℤ signed_sum f b) (signed_sum-append f a k)))
    ∙ moved (signed_sum f (l ∷ [])) (signed_sum f (r ∷ [])) (signed_sum f a) (signed_sum f k) (signed_sum f b)
    ∙ ap (λ x. (x +ℤ signed_sum f k) +ℤ (signed_sum f a +ℤ signed_sum f b)) (sym both)

-- what a discretionary shows does not stretch or shrink
pub record IsRigid (f : Item → ℤ) : Type 0 where
  pub kern : (w : ℤ) (font : Bool) → f (Kern w font) ≡ pos 0

rigid_kern : (f : Item → ℤ) → IsRigid f → (w : ℤ) → signed_sum f (Kern w true ∷ []) ≡ pos 0
rigid_kern f h w = ap (λ x. pos 0 +ℤ x) (h.kern w true)

pub after_is_rigid : (f : Item → ℤ) → IsRigid f → (place : Option Item) → signed_sum f (shown_after place) ≡ pos 0
after_is_rigid f h None = refl
after_is_rigid f h (Some (Disc pre post replace pre_empty post_empty regular)) = rigid_kern f h post.w
after_is_rigid f h (Some (Box size shift)) = refl
after_is_rigid f h (Some (Glyph size)) = refl
after_is_rigid f h (Some (Rule size)) = refl
after_is_rigid f h (Some (Glue spec)) = refl
after_is_rigid f h (Some (Kern w font)) = refl
after_is_rigid f h (Some (Penalty p)) = refl

pub before_is_rigid : (f : Item → ℤ) → IsRigid f → (place : Option Item) → signed_sum f (shown_before place) ≡ pos 0
before_is_rigid f h None = refl
before_is_rigid f h (Some (Disc pre post replace pre_empty post_empty regular)) = rigid_kern f h pre.w
before_is_rigid f h (Some (Box size shift)) = refl
before_is_rigid f h (Some (Glyph size)) = refl
before_is_rigid f h (Some (Rule size)) = refl
before_is_rigid f h (Some (Glue spec)) = refl
before_is_rigid f h (Some (Kern w font)) = refl
before_is_rigid f h (Some (Penalty p)) = refl

-- a rigid sum of the parts is that of the skips and of the items
pub rigid_parts_sum : (f : Item → ℤ) → IsRigid f → (l r : Item) (start end : Option Item) (k : List Item) →
    signed_sum f (l ∷ shown_after start ++ k ++ shown_before end ++ r ∷ []) ≡ signed_sum f (l ∷ r ∷ []) +ℤ signed_sum f k
rigid_parts_sum f h l r start end k =
    parts_sum f l r (shown_after start) k (shown_before end)
    ∙ no_more (signed_sum f (l ∷ r ∷ []) +ℤ signed_sum f k) (signed_sum f (shown_after start)) (signed_sum f (shown_before end)) (after_is_rigid f h start) (before_is_rigid f h end)

stretch_is_rigid : (order : ℕ) → IsRigid (amount_in Stretch order)
stretch_is_rigid order = record { kern = λ w font. refl }

shrink_is_rigid : IsRigid shrink_of
shrink_is_rigid = record { kern = λ w font. refl }

-- the sums of the parts of a line
pub parts_sums : (l r : Item) (start end : Option Item) (k : List Item) →
    sums_of (l ∷ shown_after start ++ k ++ shown_before end ++ r ∷ [])
    ≡ sums_wider (sums_plus (sums_of (l ∷ r ∷ [])) (sums_of k)) (signed_sum natural_width (shown_after start) +ℤ signed_sum natural_width (shown_before end))
parts_sums l r start end k =
    let w = parts_sum natural_width l r (shown_after start) k (shown_before end) in
    let a = rigid_parts_sum (amount_in Stretch 0) (stretch_is_rigid 0) l r start end k in
    let b = rigid_parts_sum (amount_in Stretch 1) (stretch_is_rigid 1) l r start end k in
    let e = rigid_parts_sum (amount_in Stretch 2) (stretch_is_rigid 2) l r start end k in
    let f = rigid_parts_sum (amount_in Stretch 3) (stretch_is_rigid 3) l r start end k in
    let s = rigid_parts_sum shrink_of shrink_is_rigid l r start end k in
    λ j. record { width = w j; stretch = record { normal = a j; fil = b j; fill = e j; filll = f j }; shrink = s j }
