-- Rounded parts: which sign they have, and how near they are.
use Rattle.std.proofs.Common.{◌≡◌, ℕ, zero, suc, ◌+◌, ◌*◌, ◌/◌, ◌<◌, ◌≤◌, ◌^◌, ◌<ℤ◌, FitsSigned, w64, to_z, of_z, lit<, subst, min, ℤ, pos, negsuc, ◌-ℤ◌, ◌*ℤ◌, neg_ℤ, unsigned_abs, refl, sym, ap, ◌∙◌, arith}
use Rattle.std.specs.Int.{w128}
use Rattle.std.proofs.lemmas.Int.{ints, to_z-of_z, fits_signed_from_abs, fits_signed_mul}
use Rattle.std.proofs.lemmas.Nat.{div_below}
use Rattle.std.proofs.Math.IntN.{neg_ℤ-neg_ℤ}
use Rattle.ntx_num.specs.Ratio.{nearest, with_sign_of, rounded_part}

with_sign_of-neg : (z : ℤ) (n : ℕ) → (z ≡ pos 0 → n ≡ 0) → with_sign_of (neg_ℤ z) n ≡ neg_ℤ (with_sign_of z n)
with_sign_of-neg (pos zero) n none = let e : n ≡ 0 = none refl in rw e refl
with_sign_of-neg (pos (suc z)) n none = refl
with_sign_of-neg (negsuc z) n none = sym (neg_ℤ-neg_ℤ (pos n))

nearest-zero : (d : ℕ) → nearest 0 d ≡ 0
nearest-zero zero = refl
nearest-zero (suc d) =
    let below : (2 * 0 + suc d) / (2 * suc d) < 1 = div_below (2 * 0 + suc d) (2 * suc d) 1 (omega arith) (omega arith) in omega arith

mul-neg_ℤ : (a b : ℤ) → a *ℤ neg_ℤ b ≡ neg_ℤ (a *ℤ b)
mul-neg_ℤ (pos a) (pos zero) = let e : a * 0 ≡ 0 = omega arith in rw e refl
mul-neg_ℤ (pos a) (pos (suc b)) = refl
mul-neg_ℤ (pos a) (negsuc b) = sym (neg_ℤ-neg_ℤ (pos (a * suc b)))
mul-neg_ℤ (negsuc a) (pos zero) = let e : suc a * 0 ≡ 0 = omega arith in rw e refl
mul-neg_ℤ (negsuc a) (pos (suc b)) = sym (neg_ℤ-neg_ℤ (pos (suc a * suc b)))
mul-neg_ℤ (negsuc a) (negsuc b) = refl

unsigned_abs-neg : (a : ℤ) → unsigned_abs (neg_ℤ a) ≡ unsigned_abs a
unsigned_abs-neg (pos zero) = refl
unsigned_abs-neg (pos (suc a)) = refl
unsigned_abs-neg (negsuc a) = refl

no_part : (z : ℤ) (den : ℕ) → z ≡ pos 0 → min (nearest (unsigned_abs z) den) 1000000000 ≡ 0
no_part z den e = rw (e, nearest-zero) refl

pub round_ratio_is_odd_lem : (num : ℤ) (den : ℕ) (x : ℤ) → rounded_part num den (neg_ℤ x) ≡ neg_ℤ (rounded_part num den x)
round_ratio_is_odd_lem num den x =
    let turned : num *ℤ neg_ℤ x ≡ neg_ℤ (num *ℤ x) = mul-neg_ℤ num x in
    let part : ℤ → ℤ = λ z. with_sign_of z (min (nearest (unsigned_abs z) den) 1000000000) in
    let same : part (neg_ℤ (num *ℤ x)) ≡ with_sign_of (neg_ℤ (num *ℤ x)) (min (nearest (unsigned_abs (num *ℤ x)) den) 1000000000) = rw (unsigned_abs-neg (num *ℤ x)) refl in
    ap part turned ∙ same ∙ with_sign_of-neg (num *ℤ x) _ (no_part (num *ℤ x) den)

-- what the code's product gives, of numbers that it has widened
pub product_is : (num x a b : ℤ) → FitsSigned w64 num → FitsSigned w64 x → unsigned_abs num ≤ 2 ^ 32 → unsigned_abs x ≤ 2 ^ 48 → a ≡ to_z w64 (of_z w64 num) → b ≡ to_z w64 (of_z w64 x)
    → to_z w128 (of_z w128 (to_z w128 (of_z w128 a) *ℤ to_z w128 (of_z w128 b))) ≡ num *ℤ x
product_is num x a b num-fits x-fits num-small x-small a-is b-is =
    let first : a ≡ num = a-is ∙ to_z-of_z w64 num num-fits in
    let second : b ≡ x = b-is ∙ to_z-of_z w64 x x-fits in
    let num-wide : FitsSigned w128 num = fits_signed_from_abs w128 num (omega arith) in
    let x-wide : FitsSigned w128 x = fits_signed_from_abs w128 x (omega arith) in
    let wide : FitsSigned w128 (num *ℤ x) = fits_signed_mul w128 num x (2 ^ 32) (2 ^ 48) num-small x-small (lit< tt) in
    rw (first, second, to_z-of_z w128 num num-wide, to_z-of_z w128 x x-wide, to_z-of_z w128 (num *ℤ x) wide) refl

-- the part of equal numbers is near too
pub near_at : (z y den : ℤ) (d : ℕ) (r q : ℤ) → 0 < d → pos 0 <ℤ den → z ≡ y → d ≡ unsigned_abs den → q ≡ r
    → (unsigned_abs r < 1000000000 → 2 * unsigned_abs (r *ℤ pos d -ℤ z) ≤ d) → unsigned_abs q < 1000000000 → 2 * unsigned_abs (q *ℤ den -ℤ y) ≤ unsigned_abs den
near_at z y (pos den) d r q positive above z-is d-is q-is near small =
    let h : 2 * unsigned_abs (r *ℤ pos d -ℤ z) ≤ d = near (subst (λ (k : ℤ). unsigned_abs k < 1000000000) q-is small) in
    rw (q-is, sym z-is, sym d-is) h
near_at z y (negsuc den) d r q positive above z-is d-is q-is near small = absurd (omega (arith, ints))
