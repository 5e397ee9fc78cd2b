-- A fraction of a number, rounded, as glue is set: the stretch or shrink of all glue up to a place is a rounded multiple of the ratio at which
-- the box is set, and one glue has the difference ("TeX: The Program", sections 625 and 634, which keep the ratio as a floating point number
-- and clamp as vet_glue does).
use Rattle.std.specs.Prelude.{◌≡◌, ℕ, ◌+◌, ◌*◌, ◌/◌, min, ℤ, pos, negsuc, ◌*ℤ◌, neg_ℤ, unsigned_abs}

-- n/d as a whole number, the nearer one, and the upper one at a half.
abbrev pub nearest : ℕ → ℕ → ℕ
nearest n d = (2 * n + d) / (2 * d)

-- The number of size n with the sign of z.
abbrev pub with_sign_of : ℤ → ℕ → ℤ
with_sign_of (pos z) n = pos n
with_sign_of (negsuc z) n = neg_ℤ (pos n)

-- z / den, the nearer whole number and at a half the one farther from zero, kept within 10 ^ 9.
abbrev pub rounded_fraction : ℤ → ℕ → ℤ
rounded_fraction z den = with_sign_of z (min (nearest (unsigned_abs z) den) 1000000000)

-- The same of num x / den.
abbrev pub rounded_part : ℤ → ℕ → ℤ → ℤ
rounded_part num den x = rounded_fraction (num *ℤ x) den

-- The part of -x is minus the part of x.
abbrev pub RoundedPartIsOdd : Type 0
RoundedPartIsOdd = (num : ℤ) (den : ℕ) (x : ℤ) → rounded_part num den (neg_ℤ x) ≡ neg_ℤ (rounded_part num den x)
