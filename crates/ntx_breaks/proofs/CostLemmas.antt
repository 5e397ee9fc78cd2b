-- How great the demerits of a line can be.
use Rattle.std.proofs.Common.{◌≡◌, ℕ, suc, ◌+◌, ◌*◌, ◌<◌, ◌≤◌, ℤ, pos, negsuc, ◌+ℤ◌, ◌*ℤ◌, Bool, true, false, cond, refl, arith}
use Rattle.std.specs.Prelude.{nat_lt, int_lt, neg_ℤ, ◌<ℤ◌}
use Rattle.std.specs.Int.RustNames.{unsigned_abs}
use Rattle.std.proofs.lemmas.Int.{ints, unsigned_abs-mul}
use Rattle.std.proofs.lemmas.Bool.Decides.{nat_tests}
use Rattle.std.proofs.lemmas.Nat.{mul-le}
use Rattle.ntx_num.specs.Demerits.{capped_square, signed_square, demerits_of}
use Rattle.ntx_breaks.specs.Penalties.{forcing, at_least_forcing}

small_square : (n : ℕ) → n < 10000 → n * n ≤ 100000000
small_square n lt = let le : n ≤ 10000 = omega arith in let square : n * n ≤ 10000 * 10000 = mul-le n n 10000 10000 le le in omega arith

by_size : (b : Bool) (d : ℤ) → (b ≡ true → unsigned_abs d < 10000) → unsigned_abs (cond b (d *ℤ d) (pos 100000000)) ≤ 100000000
by_size true d h = let lt : unsigned_abs d < 10000 = h refl in rw (unsigned_abs-mul d d) (small_square (unsigned_abs d) lt)
by_size false d h = omega arith

below : (n m : ℕ) → nat_lt n m ≡ true → n < m
below n m e = grind (arith, nat_tests)

pub square_bound : (d : ℤ) → unsigned_abs (capped_square d) ≤ 100000000
square_bound d = by_size (nat_lt (unsigned_abs d) 10000) d (below (unsigned_abs d) 10000)

by_sign : (b : Bool) (n : ℕ) → (b ≡ true → n < 10000) → unsigned_abs (cond b (neg_ℤ (pos (n * n))) (pos 0)) ≤ 100000000
by_sign true n h = let lt : n < 10000 = h refl in let square : n * n ≤ 100000000 = small_square n lt in omega (arith, ints)
by_sign false n h = omega arith

pub penalty_bound : (p : ℤ) → p <ℤ pos 10000 → unsigned_abs (signed_square p) ≤ 100000000
penalty_bound (pos p) h = let lt : p < 10000 = omega (arith, ints) in small_square p lt
penalty_bound (negsuc k) h = by_sign (nat_lt (suc k) 10000) (suc k) (below (suc k) 10000)

absolute_sum : (a b : ℤ) → unsigned_abs (a +ℤ b) ≤ unsigned_abs a + unsigned_abs b
absolute_sum a b = omega (arith, ints)

pub demerits_bound : (linepenalty b p : ℤ) → p <ℤ pos 10000 → unsigned_abs (demerits_of linepenalty b p) ≤ 200000000
demerits_bound linepenalty b p h =
    omega (arith, absolute_sum (capped_square (linepenalty +ℤ b)) (signed_square p), square_bound (linepenalty +ℤ b), penalty_bound p h)

either : (P : ℤ → Type 0) (b : Bool) (x y : ℤ) → P x → P y → P (cond b x y)
either P true x y p q = p
either P false x y p q = q

pub below_forbidding : (p : ℤ) → p <ℤ pos 10000 → at_least_forcing p <ℤ pos 10000
below_forbidding p h = either (λ z. z <ℤ pos 10000) (int_lt p forcing) forcing p (omega (arith, ints)) h
