-- Sizes in output.
use Rattle.std.proofs.Common.{◌≡◌, ℕ, ◌≤◌, ◌<◌, ℤ, pos, neg_ℤ, ◌+ℤ◌, ◌-ℤ◌, List, [], ◌∷◌, ◌++◌, map, Bool, true, false, cond, take, refl, sym, ◌∙◌, ap, arith}
use Rattle.std.specs.Prelude.{nat_eq}
use Rattle.std.specs.Int.RustNames.{unsigned_abs}
use Rattle.std.proofs.lemmas.Int.{ints}
use Rattle.ntx_item.specs.declared.item.Item.{Item}
use Rattle.ntx_item.specs.declared.item.Item.TheVariants.{Glue}
use Rattle.ntx_item.specs.Items.{absolute_stretch, absolute_shrink, AreItemsInRange, max_total}
use Rattle.ntx_item.specs.Sums.{signed_sum}
use Rattle.ntx_item.specs.declared.glue_change.GlueChange.{GlueChange}
use Rattle.ntx_item.specs.declared.glue_change.GlueChange.TheVariants.{Stretch, Shrink}
use Rattle.ntx_pack.specs.declared.glue_set.GlueSet.{GlueSet}
use Rattle.ntx_item.specs.Sums.{amount_in}
use Rattle.ntx_pack.specs.Output.{move, running, widened, set_size, set_sizes, sum_of}
use Rattle.ntx_pack.specs.Laws.{IsGlue}
use Rattle.ntx_item.proofs.SumLemmas.{signed_sum-cons}
use Rattle.ntx_pack.proofs.TotalLemmas.{absolute_amount, amount_le, front_in_range}

-- ---- running totals stay in range
-- the change that a sign represents, as far as bounds go
abbrev bound_of : Bool → GlueChange
bound_of true = Stretch
bound_of false = Shrink

negated : (x : ℤ) (n : ℕ) → unsigned_abs x ≤ n → unsigned_abs (neg_ℤ x) ≤ n
negated x n h = omega (arith, ints)

move_le : (glue : GlueSet) (one two : Bool) (item : Item) →
    unsigned_abs (cond one (amount_in Stretch glue.order item) (cond two (neg_ℤ (amount_in Shrink glue.order item)) (pos 0))) ≤ absolute_amount (bound_of one) item
move_le glue true two item = amount_le Stretch glue.order item
move_le glue false true item = negated (amount_in Shrink glue.order item) (absolute_amount Shrink item) (amount_le Shrink glue.order item)
move_le glue false false item = omega arith

pub running_in_range : (glue : GlueSet) (items : List Item) (k : ℕ) → AreItemsInRange items → unsigned_abs (running glue (take k items)) ≤ max_total
running_in_range glue items k r = front_in_range (move glue) (bound_of (nat_eq glue.sign 1)) (move_le glue (nat_eq glue.sign 1) (nat_eq glue.sign 2)) items k r

sum_small : (a b : ℤ) → unsigned_abs a < 1000 → unsigned_abs b < 1000 → unsigned_abs (a +ℤ b) ≤ max_total
sum_small a b p q = omega (arith, ints)

-- a small total stays in range with one glue more
amount_small : (change : GlueChange) (item : Item) (n : ℕ) → absolute_stretch item < n → absolute_shrink item < n → absolute_amount change item < n
amount_small Stretch item n a b = a
amount_small Shrink item n a b = b

pub small_total : (glue : GlueSet) (total : ℤ) (item : Item) → unsigned_abs total < 1000 → absolute_stretch item < 1000 → absolute_shrink item < 1000 → unsigned_abs (total +ℤ move glue item) ≤ max_total
small_total glue total item t a b =
    let m : unsigned_abs (move glue item) ≤ absolute_amount (bound_of (nat_eq glue.sign 1)) item = move_le glue (nat_eq glue.sign 1) (nat_eq glue.sign 2) item in
    let s : absolute_amount (bound_of (nat_eq glue.sign 1)) item < 1000 = amount_small (bound_of (nat_eq glue.sign 1)) item 1000 a b in
    sum_small total (move glue item) t (omega arith)

-- ---- sums of sizes
pub sum_of-cons : (x : ℤ) (xs : List ℤ) → sum_of (x ∷ xs) ≡ x +ℤ sum_of xs
sum_of-cons x xs = signed_sum-cons (λ y. y) x xs

-- the roundings cancel, but for the last and the first
telescope : (s m w0 w1 w2 rest sizes : ℤ) → rest ≡ sizes +ℤ (w2 -ℤ w1) → (s +ℤ (w1 -ℤ w0)) +ℤ rest ≡ (s +ℤ sizes) +ℤ (w2 -ℤ w0)
telescope s m w0 w1 w2 rest sizes e = omega (arith, ints)

assoc : (a b d : ℤ) → (a +ℤ b) +ℤ d ≡ a +ℤ (b +ℤ d)
assoc a b d = omega (arith, ints)

plus_zero : (a : ℤ) → a +ℤ pos 0 ≡ a
plus_zero a = omega (arith, ints)

minus_self : (a : ℤ) → a -ℤ a ≡ pos 0
minus_self a = omega (arith, ints)

pub set_sizes_sum : (size : Item → ℤ) (glue : GlueSet) (g : ℤ) (items : List Item) → sum_of (set_sizes size glue g items) ≡ signed_sum size items +ℤ (widened glue (g +ℤ running glue items) -ℤ widened glue g)
set_sizes_sum size glue g [] = sym (ap (λ x. pos 0 +ℤ (widened glue x -ℤ widened glue g)) (plus_zero g) ∙ ap (λ x. pos 0 +ℤ x) (minus_self (widened glue g)))
set_sizes_sum size glue g (x ∷ xs) =
    let g1 : ℤ = g +ℤ move glue x in
    let rest : sum_of (set_sizes size glue g1 xs) ≡ signed_sum size xs +ℤ (widened glue (g1 +ℤ running glue xs) -ℤ widened glue g1) = set_sizes_sum size glue g1 xs in
    let run : g1 +ℤ running glue xs ≡ g +ℤ running glue (x ∷ xs) = assoc g (move glue x) (running glue xs) ∙ ap (λ r. g +ℤ r) (sym (signed_sum-cons (move glue) x xs)) in
    sum_of-cons (set_size glue g (size x) x) (set_sizes size glue g1 xs)
    ∙ telescope (size x) g1 (widened glue g) (widened glue g1) (widened glue (g1 +ℤ running glue xs)) (sum_of (set_sizes size glue g1 xs)) (signed_sum size xs) rest
    ∙ ap (λ s. s +ℤ (widened glue (g1 +ℤ running glue xs) -ℤ widened glue g)) (sym (signed_sum-cons size x xs))
    ∙ ap (λ r. signed_sum size (x ∷ xs) +ℤ (widened glue r -ℤ widened glue g)) run

-- one item more at the end
pub set_sizes-push : (size : Item → ℤ) (glue : GlueSet) (g : ℤ) (items : List Item) (item : Item)
    → set_sizes size glue g (items ++ item ∷ []) ≡ set_sizes size glue g items ++ set_size glue (g +ℤ running glue items) (size item) item ∷ []
set_sizes-push size glue g [] item = ap (λ total. set_size glue total (size item) item ∷ []) (sym (plus_zero g))
set_sizes-push size glue g (x ∷ xs) item =
    ap (λ sizes. set_size glue g (size x) x ∷ sizes)
    (set_sizes-push size glue (g +ℤ move glue x) xs item
    ∙ ap (λ total. set_sizes size glue (g +ℤ move glue x) xs ++ set_size glue total (size item) item ∷ []) (assoc g (move glue x) (running glue xs) ∙ ap (λ r. g +ℤ r) (sym (signed_sum-cons (move glue) x xs))))

-- ---- sizes that stay
no_move : (glue : GlueSet) (item : Item) → glue.sign ≡ 0 → move glue item ≡ pos 0
no_move glue item e = ap (λ s. cond (nat_eq s 1) (amount_in Stretch glue.order item) (cond (nat_eq s 2) (neg_ℤ (amount_in Shrink glue.order item)) (pos 0))) e

unmoved : (glue : GlueSet) (g size : ℤ) (item : Item) → move glue item ≡ pos 0 → set_size glue g size item ≡ size
unmoved glue g size item e =
    let stays : g +ℤ move glue item ≡ g = ap (λ m. g +ℤ m) e ∙ plus_zero g in
    ap (λ h. size +ℤ (widened glue h -ℤ widened glue g)) stays ∙ ap (λ z. size +ℤ z) (minus_self (widened glue g)) ∙ plus_zero size

pub unset_sizes : (size : Item → ℤ) (glue : GlueSet) (g : ℤ) (items : List Item) → glue.sign ≡ 0 → set_sizes size glue g items ≡ map size items
unset_sizes size glue g [] e = refl
unset_sizes size glue g (x ∷ xs) e = λ j. unmoved glue g (size x) x (no_move glue x e) j ∷ unset_sizes size glue (g +ℤ move glue x) xs e j

same_either : (a b : Bool) → ◌≡◌ {A = ℤ} (cond a (pos 0) (cond b (pos 0) (pos 0))) (pos 0)
same_either true b = refl
same_either false true = refl
same_either false false = refl

others_unmoved : (glue : GlueSet) (item : Item) → ¬ IsGlue item → move glue item ≡ pos 0
others_unmoved glue (Glue spec) h = absurd (h tt)
others_unmoved glue _ h = same_either (nat_eq glue.sign 1) (nat_eq glue.sign 2)

pub other_sizes : (glue : GlueSet) (g size : ℤ) (item : Item) → ¬ IsGlue item → set_size glue g size item ≡ size
other_sizes glue g size item h = unmoved glue g size item (others_unmoved glue item h)
