-- Glue that is set: what it makes of the sizes in output.
use Rattle.std.proofs.Common.{◌≡◌, ℕ, zero, suc, ◌+◌, ◌*◌, ◌/◌, ◌≤◌, min, ℤ, pos, negsuc, neg_ℤ, ◌+ℤ◌, ◌-ℤ◌, ◌*ℤ◌, List, [], ◌∷◌, Bool, true, false, cond, subst, refl, sym, ◌∙◌, ap, arith}
use Rattle.std.specs.Prelude.{nat_eq, ◌≢◌, ◌&&◌, int_lt}
use Rattle.std.specs.Int.RustNames.{unsigned_abs}
use Rattle.std.proofs.lemmas.Int.{ints}
use Rattle.std.proofs.lemmas.Bool.{eqb-true}
use Rattle.std.proofs.lemmas.Nat.{div-mul-add}
use Rattle.ntx_num.specs.Ratio.{nearest, rounded_fraction, rounded_part}
use Rattle.ntx_item.specs.declared.item.Item.{Item}
use Rattle.ntx_item.specs.Sums.{signed_sum}
use Rattle.ntx_item.specs.declared.glue_change.GlueChange.TheVariants.{Stretch, Shrink}
use Rattle.ntx_pack.specs.declared.glue_set.GlueSet.{GlueSet}
use Rattle.ntx_item.specs.Sums.{amount_in, glue_total}
use Rattle.ntx_pack.specs.GlueSet.{order_for, total_for, unset, shared, fully, is_overfull, glue_set}
use Rattle.ntx_pack.specs.Output.{running, widened, set_sizes, sum_of}
use Rattle.ntx_item.proofs.SumLemmas.{signed_sum-cons}
use Rattle.ntx_pack.proofs.OutputLemmas.{set_sizes_sum}

-- ---- exact fractions
nearest_exact : (n d : ℕ) → nearest (n * suc d) (suc d) ≡ n
nearest_exact n d =
    let e : 2 * (n * suc d) + suc d ≡ n * (2 * suc d) + suc d = omega arith in
    ap (λ m. m / (2 * suc d)) e ∙ div-mul-add n (2 * suc d) (suc d) (omega arith)

kept : (n : ℕ) → n ≤ 1000000000 → min n 1000000000 ≡ n
kept n h = omega arith

exact_pos : (z : ℤ) (n t : ℕ) → n ≤ 1000000000 → z ≡ pos (n * suc t) → rounded_fraction z (suc t) ≡ pos n
exact_pos z n t small e =
    ap (λ z. rounded_fraction z (suc t)) e ∙ ap (λ m. pos (min m 1000000000)) (nearest_exact n t) ∙ ap pos (kept n small)

exact_neg : (z : ℤ) (n t : ℕ) → suc n ≤ 1000000000 → z ≡ neg_ℤ (pos (suc n * suc t)) → rounded_fraction z (suc t) ≡ negsuc n
exact_neg z n t small e =
    let k : ℕ = n * suc t + t in
    let m : suc n * suc t ≡ suc k = omega arith in
    ap (λ z. rounded_fraction z (suc t)) (e ∙ ap (λ m. neg_ℤ (pos m)) m)
    ∙ ap (λ q. neg_ℤ (pos (min q 1000000000))) (ap (λ m. nearest m (suc t)) (sym m) ∙ nearest_exact (suc n) t)
    ∙ ap (λ q. neg_ℤ (pos q)) (kept (suc n) small)

times_zero : (a : ℤ) → a *ℤ pos 0 ≡ pos 0
times_zero (pos a) = let e : a * 0 ≡ 0 = omega arith in rw e refl
times_zero (negsuc a) = let e : suc a * 0 ≡ 0 = omega arith in rw e refl

no_part : (num : ℤ) (t : ℕ) → rounded_part num (suc t) (pos 0) ≡ pos 0
no_part num t = exact_pos (num *ℤ pos 0) 0 t (omega arith) (times_zero num ∙ ap pos (let e : 0 ≡ 0 * suc t = omega arith in e))

-- ---- all glue together makes up for the shortfall
pub record Fills (glue : GlueSet) (items : List Item) (x : ℤ) : Type 0 where
  pub all : widened glue (running glue items) ≡ x
  pub none : widened glue (pos 0) ≡ pos 0

stretches : (items : List Item) (order n : ℕ) (t : ℤ) → suc n ≤ 1000000000 → glue_total Stretch order items ≡ t → (shared Stretch order (suc n) t).sign ≢ 0 → Fills (shared Stretch order (suc n) t) items (pos (suc n))
stretches items order n (pos zero) small e sign = absurd (sign refl)
stretches items order n (pos (suc t)) small e sign = record {
  all = exact_pos _ (suc n) t small (ap (λ r. pos (suc n) *ℤ r) e);
  none = no_part (pos (suc n)) t;
}
stretches items order n (negsuc t) small e sign = record {
  all = exact_pos _ (suc n) t small (ap (λ r. negsuc n *ℤ r) e);
  none = no_part (negsuc n) t;
}

sum_neg : (f : Item → ℤ) (items : List Item) → signed_sum (λ item. neg_ℤ (f item)) items ≡ neg_ℤ (signed_sum f items)
sum_neg f [] = refl
sum_neg f (x ∷ xs) =
    let a : signed_sum (λ item. neg_ℤ (f item)) (x ∷ xs) ≡ neg_ℤ (f x) +ℤ signed_sum (λ item. neg_ℤ (f item)) xs = signed_sum-cons (λ item. neg_ℤ (f item)) x xs in
    let b : signed_sum f (x ∷ xs) ≡ f x +ℤ signed_sum f xs = signed_sum-cons f x xs in
    let i : signed_sum (λ item. neg_ℤ (f item)) xs ≡ neg_ℤ (signed_sum f xs) = sum_neg f xs in
    omega (arith, ints)

shrinks : (items : List Item) (order n : ℕ) (t : ℤ) → suc n ≤ 1000000000 → glue_total Shrink order items ≡ t → (shared Shrink order (suc n) t).sign ≢ 0 → Fills (shared Shrink order (suc n) t) items (negsuc n)
shrinks items order n (pos zero) small e sign = absurd (sign refl)
shrinks items order n (pos (suc t)) small e sign = record {
  all = exact_neg _ n t small (ap (λ r. pos (suc n) *ℤ r) (sum_neg (amount_in Shrink order) items ∙ ap neg_ℤ e));
  none = no_part (pos (suc n)) t;
}
shrinks items order n (negsuc t) small e sign = record {
  all = exact_neg _ n t small (ap (λ r. negsuc n *ℤ r) (sum_neg (amount_in Shrink order) items ∙ ap neg_ℤ e));
  none = no_part (negsuc n) t;
}

filled : (size : Item → ℤ) (glue : GlueSet) (items : List Item) (x : ℤ) → Fills glue items x → sum_of (set_sizes size glue (pos 0) items) ≡ signed_sum size items +ℤ x
filled size glue items x f =
    let sum : sum_of (set_sizes size glue (pos 0) items) ≡ signed_sum size items +ℤ (widened glue (pos 0 +ℤ running glue items) -ℤ widened glue (pos 0)) = set_sizes_sum size glue (pos 0) items in
    let r : pos 0 +ℤ running glue items ≡ running glue items = omega (arith, ints) in
    let a : widened glue (pos 0 +ℤ running glue items) ≡ x = ap (widened glue) r ∙ f.all in
    sum ∙ ap (λ d. signed_sum size items +ℤ d) (let d : widened glue (pos 0 +ℤ running glue items) -ℤ widened glue (pos 0) ≡ x = ap (λ w. w -ℤ widened glue (pos 0)) a ∙ ap (λ w. x -ℤ w) f.none ∙ (let m : x -ℤ pos 0 ≡ x = omega (arith, ints) in m) in d)

-- if the glue is set so, then all of it together does
filled_if : (size : Item → ℤ) (glue same : GlueSet) (items : List Item) (x : ℤ) → glue ≡ same → (same.sign ≢ 0 → Fills same items x) → glue.sign ≢ 0 → sum_of (set_sizes size glue (pos 0) items) ≡ signed_sum size items +ℤ x
filled_if size glue same items x e f = subst (λ (g : GlueSet). g.sign ≢ 0 → sum_of (set_sizes size g (pos 0) items) ≡ signed_sum size items +ℤ x) (sym e) (λ sign. filled size same items x (f sign))

never_set : (b : Bool) → (cond b unset unset).sign ≡ 0
never_set true = refl
never_set false = refl

pub set_sizes_add_up_lem : (size : Item → ℤ) (items : List Item) (x : ℤ) → (glue_set items x).sign ≢ 0 → is_overfull items x ≡ false → unsigned_abs x ≤ 1000000000 → sum_of (set_sizes size (glue_set items x) (pos 0) items) ≡ signed_sum size items +ℤ x
set_sizes_add_up_lem size items (pos zero) sign over small = absurd (sign refl)
set_sizes_add_up_lem size [] (pos (suc n)) sign over small = absurd (sign (never_set _))
set_sizes_add_up_lem size [] (negsuc n) sign over small = absurd (sign (never_set _))
set_sizes_add_up_lem size (i ∷ is) (pos (suc n)) sign over small =
    let items : List Item = i ∷ is in
    let t : ℤ = total_for items (pos (suc n)) in
    let glue : GlueSet = shared Stretch (order_for items (pos (suc n))) (suc n) t in
    filled_if size (glue_set items (pos (suc n))) glue items (pos (suc n)) (ap (λ b. cond b (fully t) glue) over) (stretches items (order_for items (pos (suc n))) n t small refl) sign
set_sizes_add_up_lem size (i ∷ is) (negsuc n) sign over small =
    let items : List Item = i ∷ is in
    let t : ℤ = total_for items (negsuc n) in
    let glue : GlueSet = shared Shrink (order_for items (negsuc n)) (suc n) t in
    filled_if size (glue_set items (negsuc n)) glue items (negsuc n) (ap (λ b. cond b (fully t) glue) over) (shrinks items (order_for items (negsuc n)) n t small refl) sign

-- ---- an overfull box
zero_times : (a : ℤ) → pos 0 *ℤ a ≡ pos 0
zero_times (pos a) = let e : 0 * a ≡ 0 = omega arith in rw e refl
zero_times (negsuc a) = let e : 0 * suc a ≡ 0 = omega arith in rw e refl

once : (a : ℤ) → unsigned_abs a ≤ 1000000000 → rounded_part (pos 1) 1 a ≡ a
once (pos a) small = exact_pos (pos 1 *ℤ pos a) a 0 small (let e : 1 * a ≡ a * 1 = omega arith in ap pos e)
once (negsuc a) small = exact_neg (pos 1 *ℤ negsuc a) a 0 small (let e : 1 * suc a ≡ suc a * 1 = omega arith in ap (λ m. neg_ℤ (pos m)) e)

minus_small : (t : ℤ) → unsigned_abs t ≤ 1000000000 → unsigned_abs (neg_ℤ t) ≤ 1000000000
minus_small t h = omega (arith, ints)

unset_part : (a : ℤ) → widened unset a ≡ pos 0
unset_part a = exact_pos (pos 0 *ℤ a) 0 0 (omega arith) (zero_times a ∙ ap pos (let e : 0 ≡ 0 * 1 = omega arith in e))

all_shrinks : (items : List Item) (t r : ℤ) → running (record { sign = 2; order = 0; num = pos 1; den = pos 1 }) items ≡ r → r ≡ neg_ℤ t → unsigned_abs t ≤ 1000000000 → Fills (record { sign = 2; order = 0; num = pos 1; den = pos 1 }) items (neg_ℤ t)
all_shrinks items t r e is small = record {
  all = ap (rounded_part (pos 1) 1) (e ∙ is) ∙ once (neg_ℤ t) (minus_small t small);
  none = once (pos 0) (omega arith);
}

shrinks_fully : (items : List Item) (t : ℤ) → glue_total Shrink 0 items ≡ t → unsigned_abs t ≤ 1000000000 → Fills (fully t) items (neg_ℤ t)
shrinks_fully items (pos zero) e small = record { all = unset_part (running unset items); none = unset_part (pos 0) }
shrinks_fully items (pos (suc t)) e small = all_shrinks items (pos (suc t)) _ (sum_neg (amount_in Shrink 0) items) (ap neg_ℤ e) small
shrinks_fully items (negsuc t) e small = all_shrinks items (negsuc t) _ (sum_neg (amount_in Shrink 0) items) (ap neg_ℤ e) small

both_true : (a b : Bool) → (a && b) ≡ true → (a ≡ true) × (b ≡ true)
both_true true b e = (refl, e)
both_true false b e = cc

never_short : (x : ℕ) → int_lt (pos x) (pos 0) ≡ true → ⊥
never_short x e = grind (arith, ints)

fully_filled : (size : Item → ℤ) (items : List Item) (x : ℤ) (order : ℕ) → order ≡ 0 → unsigned_abs (glue_total Shrink order items) ≤ 1000000000
    → sum_of (set_sizes size (fully (glue_total Shrink order items)) (pos 0) items) ≡ signed_sum size items +ℤ neg_ℤ (glue_total Shrink order items)
fully_filled size items x order none small =
    let t : ℤ = glue_total Shrink order items in
    filled size (fully t) items (neg_ℤ t) (shrinks_fully items t (ap (λ o. glue_total Shrink o items) (sym none)) small)

pub overfull_lem : (size : Item → ℤ) (items : List Item) (x : ℤ) → is_overfull items x ≡ true → unsigned_abs (total_for items x) ≤ 1000000000 → sum_of (set_sizes size (glue_set items x) (pos 0) items) ≡ signed_sum size items +ℤ neg_ℤ (total_for items x)
overfull_lem size [] x over small = cc
overfull_lem size (i ∷ is) (pos x) over small = absurd (never_short x (both_true (int_lt (pos x) (pos 0)) _ (both_true _ _ over).0).0)
overfull_lem size (i ∷ is) (negsuc n) over small =
    let items : List Item = i ∷ is in
    let t : ℤ = total_for items (negsuc n) in
    let order : ℕ = order_for items (negsuc n) in
    let none : order ≡ 0 = eqb-true order 0 (both_true (int_lt (negsuc n) (pos 0)) (nat_eq order 0) (both_true _ _ over).0).1 in
    ap (λ b. sum_of (set_sizes size (cond b (fully t) (shared Shrink order (suc n) t)) (pos 0) items)) over ∙ fully_filled size items (negsuc n) order none small
