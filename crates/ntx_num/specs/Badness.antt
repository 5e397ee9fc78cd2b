-- Badness, TeX's measure of how far glue is stretched or shrunk ("TeX: The Program", section 108): about 100 times the cube of t/s, where t
-- is the shortfall and s the glue that can make up for it, both in scaled points.
use Rattle.std.specs.Prelude.{ℕ, zero, suc, ◌+◌, ◌*◌, ◌/◌, ◌≤◌, ℤ, pos, negsuc, nat_le, if◌then◌else◌}

-- The ratio 297 t/s, near enough: the cube of 297 is about 100 times 2 ^ 18. A large t is divided by s/297, or represents a ratio that is too
-- large where s is small.
abbrev pub scaled_ratio : ℕ → ℕ → ℕ
scaled_ratio t s = if nat_le t 7230584 then t * 297 / s else if nat_le 1663497 s then t / (s / 297) else t

-- A ratio's cube over 2 ^ 18, rounded, and the greatest badness for a ratio above 1290.
abbrev pub cubed : ℕ → ℕ
cubed r = if nat_le r 1290 then (r * r * r + 131072) / 262144 else 10000

-- The badness of the shortfall t with the glue s.
abbrev pub badness_of : ℕ → ℤ → ℕ
badness_of zero s = 0
badness_of (suc t) (negsuc s) = 10000
badness_of (suc t) (pos zero) = 10000
badness_of (suc t) (pos (suc s)) = cubed (scaled_ratio (suc t) (suc s))

-- Badness does not fall as the shortfall grows.
abbrev pub BadnessGrows : Type 0
BadnessGrows = (t u : ℕ) (s : ℤ) → t ≤ u → badness_of t s ≤ badness_of u s
