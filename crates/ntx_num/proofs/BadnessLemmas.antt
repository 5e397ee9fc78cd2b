-- Badness does not fall as the shortfall grows.
use Rattle.std.proofs.Common.{◌≡◌, ℕ, zero, suc, ◌+◌, ◌*◌, ◌/◌, ◌<◌, ◌≤◌, ℤ, pos, negsuc, inl, inr, arith}
use Rattle.std.proofs.lemmas.Bool.{cases_lt}
use Rattle.std.proofs.lemmas.Nat.{le-div, mul-le}
use Rattle.std.proofs.Math.Nat.{div-mul-le_self, mul-le-mul_left}
use Rattle.ntx_num.specs.Badness.{scaled_ratio, cubed, badness_of}

div_grows : (m n k : ℕ) → 0 < k → m ≤ n → m / k ≤ n / k
div_grows m n k positive le = le-div (m / k) n k positive (omega (arith, div-mul-le_self m k))

-- A quotient by a rounded part of s is at least 297 times the quotient by s.
divided_later : (t u s : ℕ) → 0 < s → 0 < s / 297 → t ≤ u → t * 297 / s ≤ u / (s / 297)
divided_later t u s positive part le =
    let r : ℕ = t * 297 / s in
    let below : r * s ≤ t * 297 = div-mul-le_self (t * 297) s in
    let parts : r * (s / 297 * 297) ≤ r * s = mul-le-mul_left r (div-mul-le_self s 297) in
    let enough : r * (s / 297) ≤ u = omega arith in
    le-div r u (s / 297) part enough

cube_grows : (r q : ℕ) → r ≤ q → r * r * r ≤ q * q * q
cube_grows r q le = mul-le (r * r) r (q * q) q (mul-le r r q q le le) le

small_cube : (r : ℕ) → r ≤ 1290 → r * r * r ≤ 2146689000
small_cube r le = cube_grows r 1290 le

pub cubed_capped : (r : ℕ) → cubed r ≤ 10000
cubed_capped r = grind (arith, small_cube)

quotients : (r q : ℕ) → r ≤ q → (r * r * r + 131072) / 262144 ≤ (q * q * q + 131072) / 262144
quotients r q le = let cubes : r * r * r ≤ q * q * q = cube_grows r q le in omega arith

pub cubed_grows : (r q : ℕ) → r ≤ q → cubed r ≤ cubed q
cubed_grows r q le = grind (arith, quotients r q le, small_cube r)

small_ratio : (t s : ℕ) → t ≤ 7230584 → scaled_ratio t s ≡ t * 297 / s
small_ratio t s small = grind arith

large_ratio : (t s : ℕ) → 7230584 < t → 1663497 ≤ s → scaled_ratio t s ≡ t / (s / 297)
large_ratio t s large glue = grind arith

far_ratio : (t s : ℕ) → 7230584 < t → s < 1663497 → scaled_ratio t s ≡ t
far_ratio t s large glue = grind arith

-- the whole part of a 297th of enough glue
some_part : (s : ℕ) → 1663497 ≤ s → 0 < s / 297
some_part s glue = omega arith

-- what a bound on the ratios says of their cubes
through : (r q a b : ℕ) → r ≡ a → q ≡ b → a ≤ b → cubed r ≤ cubed q
through r q a b e f le = cubed_grows r q (omega arith)

far_cube : (r : ℕ) → 1290 < r → cubed r ≡ 10000
far_cube r far = grind arith

to_far : (r q u : ℕ) → q ≡ u → 7230584 < u → cubed r ≤ cubed q
to_far r q u e large = omega (arith, cubed_capped r, far_cube q (omega arith))

scaled_ratio_grows : (t u s : ℕ) → 0 < s → t ≤ u → cubed (scaled_ratio t s) ≤ cubed (scaled_ratio u s)
scaled_ratio_grows t u s positive le =
    elim (cases_lt 7230584 u) [
      | inr small ↦ through _ _ _ _ (small_ratio t s (omega arith)) (small_ratio u s small) (div_grows (t * 297) (u * 297) s positive (omega arith))
      | inl large ↦ elim (cases_lt s 1663497) [
        | inl glue ↦ to_far (scaled_ratio t s) (scaled_ratio u s) u (far_ratio u s large glue) large
        | inr glue ↦ elim (cases_lt 7230584 t) [
          | inl also ↦ through _ _ _ _ (large_ratio t s also glue) (large_ratio u s large glue) (div_grows t u (s / 297) (some_part s glue) le)
          | inr small ↦ through _ _ _ _ (small_ratio t s small) (large_ratio u s large glue) (divided_later t u s positive (some_part s glue) le)
        ]
      ]
    ]

pub badness_grows_lem : (t u : ℕ) (s : ℤ) → t ≤ u → badness_of t s ≤ badness_of u s
badness_grows_lem zero u s le = omega arith
badness_grows_lem (suc t) zero s le = omega arith
badness_grows_lem (suc t) (suc u) (negsuc s) le = omega arith
badness_grows_lem (suc t) (suc u) (pos zero) le = omega arith
badness_grows_lem (suc t) (suc u) (pos (suc s)) le = scaled_ratio_grows (suc t) (suc u) (suc s) (omega arith) le
