-- How large a scaled number is.
use Rattle.std.proofs.Common.{◌≡◌, ℕ, ◌+◌, ◌*◌, ◌/◌, ◌<◌, ◌≤◌, ◌^◌, Bool, true, false, cond, nat_eq, pos, ◌-ℤ◌, ap, ◌∙◌, refl, arith}
use Rattle.std.proofs.lemmas.Int.{ints}
use Rattle.std.proofs.Math.Nat.{div-le_of_le-mul, div-mul-le_self}
use Rattle.std.proofs.lemmas.Nat.{mul-le}
use Rattle.ntx_num.specs.Dimension.{IsDimension}
use Rattle.ntx_tfm.specs.declared.words.Quad.{Quad}
use Rattle.ntx_tfm.specs.Scaling.{divisor_of, reduced, magnitude, scaled, fraction_of, whole_size}

-- three bytes times a number are below 256 times it
three_bytes : (b c d y : ℕ) → b < 256 → c < 256 → d < 256 → (d * y / 256 + c * y) / 256 + b * y ≤ 256 * y
three_bytes b c d y b-fits c-fits d-fits =
    let first : b * y ≤ 255 * y = mul-le b y 255 y (omega arith) (omega arith) in
    let second : c * y ≤ 255 * y = mul-le c y 255 y (omega arith) (omega arith) in
    let third : d * y ≤ 255 * y = mul-le d y 255 y (omega arith) (omega arith) in
    omega arith

part_below : (n y k m : ℕ) → n ≤ 256 * y → m * (16 * k) ≡ 256 → n / m ≤ 16 * k * y
part_below n y k m le e =
    let product : m * (16 * k) * y ≡ 256 * y = ap (λ (x : ℕ). x * y) e in
    div-le_of_le-mul m (omega arith)

-- beta times alpha is 256
beta_of : (z : ℕ) → 16 / divisor_of z * (16 * divisor_of z) ≡ 256
unfolding divisor_of
beta_of z = grind arith

pub magnitude_below : (z : ℕ) (q : Quad) → q.b < 256 → q.c < 256 → q.d < 256 → magnitude z q ≤ 16 * divisor_of z * reduced z
unfolding magnitude
magnitude_below z q b-fits c-fits d-fits =
    part_below _ (reduced z) (divisor_of z) (16 / divisor_of z) (three_bytes q.b q.c q.d (reduced z) b-fits c-fits d-fits) (beta_of z)

-- less a where it is negative, a number up to a stays as near to 0
signed_small : (b : Bool) (m a : ℕ) → m ≤ a → a < 1073741824 → IsDimension (cond b (pos m -ℤ pos a) (pos m))
signed_small true m a le small = (omega (arith, ints), omega (arith, ints))
signed_small false m a le small = (omega (arith, ints), omega (arith, ints))

-- Scaled by a size below 2 ^ 26, a fix_word is a dimension.
pub scaled_small : (z : ℕ) (q : Quad) → z < 2 ^ 26 → q.b < 256 → q.c < 256 → q.d < 256 → IsDimension (scaled z q)
unfolding scaled
scaled_small z q z-fits b-fits c-fits d-fits =
    let below : reduced z * divisor_of z ≤ z = div-mul-le_self z (divisor_of z) in
    signed_small (nat_eq q.a 255) (magnitude z q) (16 * divisor_of z * reduced z) (magnitude_below z q b-fits c-fits d-fits) (omega arith)

-- rounding down in steps is rounding down once
rounded_once : (x y w : ℕ) → (x / 256 + y) / 256 + w ≡ (w * 65536 + y * 256 + x) / 65536
rounded_once x y w = omega arith

quotient_is : (n z : ℕ) → n / 65536 / (16 / divisor_of z) ≡ n * divisor_of z / 1048576
unfolding divisor_of
quotient_is n z = grind arith

magnitude_is : (z : ℕ) (q : Quad) → magnitude z q ≡ fraction_of q * whole_size z / 1048576
unfolding magnitude
magnitude_is z q =
    let y : ℕ = reduced z in
    let sum : q.b * y * 65536 + q.c * y * 256 + q.d * y ≡ fraction_of q * y = omega arith in
    let product : fraction_of q * y * divisor_of z ≡ fraction_of q * whole_size z = omega arith in
    ap (λ n. n / (16 / divisor_of z)) (rounded_once (q.d * y) (q.c * y) (q.b * y) ∙ ap (λ n. n / 65536) sum) ∙ quotient_is (fraction_of q * y) z ∙ ap (λ n. n / 1048576) product

pub scaling_rounds_down_lem : (z : ℕ) (q : Quad) → scaled z q ≡ cond (nat_eq q.a 255) (pos (fraction_of q * whole_size z / 1048576) -ℤ pos (16 * whole_size z)) (pos (fraction_of q * whole_size z / 1048576))
unfolding scaled
scaling_rounds_down_lem z q =
    let whole : 16 * divisor_of z * reduced z ≡ 16 * whole_size z = omega arith in
    rw (magnitude_is z q, whole) refl
