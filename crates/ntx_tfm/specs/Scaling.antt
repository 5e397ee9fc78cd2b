-- A fix_word times a size ("TeX: The Program", sections 571 and 572). A fix_word is a signed multiple of 2 ^ -20 in four bytes; in a font its
-- first byte is 0 or 255, so that it lies between -16 and 16.
use Rattle.std.specs.Prelude.{◌≡◌, ℕ, ◌+◌, ◌*◌, ◌/◌, ℤ, pos, ◌-ℤ◌, nat_lt, nat_eq, if◌then◌else◌}
use Rattle.ntx_tfm.specs.declared.words.Quad.{Quad}

-- The power of 2 by which a size below 2 ^ 26 is divided so that it is below 2 ^ 23.
unfoldable pub divisor_of : ℕ → ℕ
divisor_of z = if nat_lt z 8388608 then 1 else if nat_lt z 16777216 then 2 else if nat_lt z 33554432 then 4 else 8

-- The size that TeX multiplies by.
abbrev pub reduced : ℕ → ℕ
reduced z = z / divisor_of z

-- The last three bytes times the size, each division rounded down, with alpha = 16 times the divisor and beta = 256 / alpha.
unfoldable pub magnitude : ℕ → Quad → ℕ
magnitude z q = ((q.d * reduced z / 256 + q.c * reduced z) / 256 + q.b * reduced z) / (16 / divisor_of z)

-- The fix_word times the size z: less 16 times the size where the word is negative.
unfoldable pub scaled : ℕ → Quad → ℤ
scaled z q = if nat_eq q.a 255 then pos (magnitude z q) -ℤ pos (16 * divisor_of z * reduced z) else pos (magnitude z q)

-- The last three bytes as a number of 24 bits, and the size with the bits cleared that the division by its divisor loses.
abbrev pub fraction_of : Quad → ℕ
fraction_of q = q.b * 65536 + q.c * 256 + q.d

abbrev pub whole_size : ℕ → ℕ
whole_size z = reduced z * divisor_of z

-- A scaled fix_word is the product of the signed fraction, in units of 2 ^ -20, and the whole size, rounded down.
abbrev pub ScalingRoundsDown : Type 0
ScalingRoundsDown = (z : ℕ) (q : Quad)
    → scaled z q ≡ (let product = fraction_of q * whole_size z / 1048576 in if nat_eq q.a 255 then pos product -ℤ pos (16 * whole_size z) else pos product)
