-- Division that rounds toward minus infinity, by the quotient whose remainder is not negative.
use Rattle.std.proofs.Common.{◌≡◌, ◌≢◌, ◌∙◌, refl, sym, ap, subst, arith, ℕ, zero, suc, ◌+◌, ◌-◌, ◌*◌, ◌/◌, ◌%◌, ◌^◌, ◌<◌, ◌≤◌, ℤ, pos, negsuc, neg_ℤ, ◌+ℤ◌, ◌-ℤ◌, ◌*ℤ◌, ◌<ℤ◌, w64, FitsSigned, mod-lt, mod-eq_of_lt, mul_comm, to_z-of_z, Bool, true, false, nat_lt}
use Rattle.std.proofs.lemmas.Int.{ints}
use Rattle.std.proofs.Math.Nat.{div-add-mod, div-eq_of_lt-le, div-le_self, zero-div, suc-mod, zero-mod, mod_self, zero-lt-suc, mul-zero, mul-suc}
use Rattle.std.proofs.lemmas.Nat.{div_below}
use Rattle.std.specs.Int.{int_div_euclid, int_wrapping_div_euclid, int_rem_euclid}
use Rattle.ntx_eval.specs.Integers.{wrapped, floor_quotient, floor_remainder}

-- a number between two multiples
between : (a d k : ℕ) → k * d ≤ a → a < k * d + d → a / d ≡ k
between a d k low high = div-eq_of_lt-le d low (grind (arith, high))

whole : (n d : ℕ) → n / d * d + n % d ≡ n
whole n d = ap (λ x. x + n % d) (mul_comm (n / d) d) ∙ div-add-mod n d

-- if the next number is a multiple, its quotient is the next one, and else the same
next_up : (a b : ℕ) → a % suc b ≡ b → suc a / suc b ≡ suc (a / suc b)
next_up a b last = between (suc a) (suc b) (suc (a / suc b)) (grind (arith, whole a (suc b), last)) (grind (arith, whole a (suc b), last))

next_same : (a b : ℕ) → a % suc b < b → suc a / suc b ≡ a / suc b
next_same a b early = between (suc a) (suc b) (a / suc b) (grind (arith, whole a (suc b), early)) (grind (arith, whole a (suc b), early))

-- ---- the last number before a multiple

last-by : (a b : ℕ) (t : Bool) → nat_lt (a % suc b) b ≡ t → suc a % suc b ≡ 0 → a % suc b ≡ b
last-by a b true early none =
    let s : suc a % suc b ≡ suc (a % suc b) % suc b = suc-mod a (suc b) in
    let e : suc (a % suc b) % suc b ≡ suc (a % suc b) = mod-eq_of_lt (grind (arith, early)) in
    let h : ⊥ = grind (arith, s, e, none) in absurd h
last-by a b false late none = grind (arith, late, mod-lt a (zero-lt-suc b))

last : (a b : ℕ) → suc a % suc b ≡ 0 → a % suc b ≡ b
last a b none = last-by a b (nat_lt (a % suc b) b) refl none

early-by : (a b : ℕ) (t : Bool) → nat_lt (a % suc b) b ≡ t → suc a % suc b ≢ 0 → a % suc b < b
early-by a b true early some = grind (arith, early)
early-by a b false late some =
    let e : a % suc b ≡ b = grind (arith, late, mod-lt a (zero-lt-suc b)) in
    let s : suc a % suc b ≡ suc (a % suc b) % suc b = suc-mod a (suc b) in
    absurd (some (s ∙ ap (λ x. suc x % suc b) e ∙ mod_self (suc b)))

early : (a b : ℕ) → suc a % suc b ≢ 0 → a % suc b < b
early a b some = early-by a b (nat_lt (a % suc b) b) refl some

-- ---- numbers with signs

pub floor_same : (a b : ℤ) → b <ℤ pos 0 → int_rem_euclid a b ≡ pos 0 → floor_quotient a b ≡ int_div_euclid a b
floor_same a (pos b) negative none = let h : ⊥ = omega (arith, ints, negative) in absurd h
floor_same (pos zero) (negsuc b) negative none = rw (zero-div (suc b)) refl
floor_same (pos (suc a)) (negsuc b) negative none = rw (next_up a b (last a b (omega (arith, ints, none)))) refl
floor_same (negsuc a) (negsuc b) negative none = rw (next_up a b (omega (arith, ints, none, mod-lt a (zero-lt-suc b)))) refl

less_one : (n : ℕ) → negsuc n ≡ neg_ℤ (pos n) -ℤ pos 1
less_one zero = refl
less_one (suc n) = omega (arith, ints)

before_multiple : (a b : ℕ) → a % suc b ≡ b → suc b - 1 - a % suc b ≡ 0
before_multiple a b is = omega (arith, is)

pub floor_less : (a b : ℤ) → b <ℤ pos 0 → int_rem_euclid a b ≢ pos 0 → floor_quotient a b ≡ int_div_euclid a b -ℤ pos 1
floor_less a (pos b) negative some = let h : ⊥ = omega (arith, ints, negative) in absurd h
floor_less (pos zero) (negsuc b) negative some = absurd (some (ap pos (zero-mod (suc b))))
floor_less (pos (suc a)) (negsuc b) negative some = rw (next_same a b (early a b (λ e. some (ap pos e)))) (less_one (a / suc b))
floor_less (negsuc a) (negsuc b) negative some = rw (next_same a b (early a b (λ e. some (ap pos (before_multiple a b (last a b e)))))) (omega (arith, ints))

-- ---- what is left

minus : (a p r : ℕ) → p + r ≡ a → pos a -ℤ pos p ≡ pos r
minus a p r is = omega (arith, ints, is)

times_below : (b q : ℕ) → negsuc b *ℤ neg_ℤ (pos q) ≡ pos (suc b * q)
times_below b zero = rw (mul-zero (suc b)) refl
times_below b (suc q) = refl

below : (a m p r b : ℕ) → m ≡ p + suc b → p + r ≡ a → r < suc b → negsuc a -ℤ neg_ℤ (pos m) ≡ pos (suc b - 1 - r)
below a m p r b next is less = omega (arith, ints, next, is, less)

left_below : (a b : ℕ) → negsuc a -ℤ neg_ℤ (pos (suc b * suc (a / suc b))) ≡ pos (suc b - 1 - a % suc b)
left_below a b = below a (suc b * suc (a / suc b)) (suc b * (a / suc b)) (a % suc b) b (mul-suc (suc b) (a / suc b)) (div-add-mod a (suc b)) (mod-lt a (zero-lt-suc b))

-- the number less the divisor times the quotient
pub left_over : (a b : ℤ) → b ≢ pos 0 → a -ℤ b *ℤ int_div_euclid a b ≡ int_rem_euclid a b
left_over a (pos zero) some = absurd (some refl)
left_over (pos a) (pos (suc b)) some = minus a (suc b * (a / suc b)) (a % suc b) (div-add-mod a (suc b))
left_over (negsuc a) (pos (suc b)) some = left_below a b
left_over (pos a) (negsuc b) some = rw (times_below b (a / suc b)) (minus a (suc b * (a / suc b)) (a % suc b) (div-add-mod a (suc b)))
left_over (negsuc a) (negsuc b) some = left_below a b

pub remainder_same : (a b : ℤ) → b <ℤ pos 0 → int_rem_euclid a b ≡ pos 0 → int_rem_euclid a b ≡ floor_remainder a b
remainder_same a b negative none = rw (floor_same a b negative none) (sym (left_over a b (λ e. below_zero b negative e)))
  where
    below_zero : (b : ℤ) → b <ℤ pos 0 → b ≡ pos 0 → ⊥
    below_zero b negative e = omega (arith, ints, negative, e)

above : (a m p r b : ℕ) → m ≡ p + suc b → p + r ≡ a → pos r +ℤ negsuc b ≡ pos a -ℤ pos m
above a m p r b next is = omega (arith, ints, next, is)

under : (a p r b : ℕ) → p + r ≡ a → r < suc b → pos (suc b - 1 - r) +ℤ negsuc b ≡ negsuc a -ℤ neg_ℤ (pos p)
under a p r b is less = omega (arith, ints, is, less)

pub remainder_less : (a b : ℤ) → b <ℤ pos 0 → int_rem_euclid a b ≢ pos 0 → int_rem_euclid a b +ℤ b ≡ floor_remainder a b
remainder_less a (pos b) negative some = let h : ⊥ = omega (arith, ints, negative) in absurd h
remainder_less (pos zero) (negsuc b) negative some = absurd (some (ap pos (zero-mod (suc b))))
remainder_less (pos (suc a)) (negsuc b) negative some =
    let same : suc a / suc b ≡ a / suc b = next_same a b (early a b (λ e. some (ap pos e))) in
    above (suc a) (suc b * suc (a / suc b)) (suc b * (a / suc b)) (suc a % suc b) b (mul-suc (suc b) (a / suc b))
    (ap (λ q. suc b * q + suc a % suc b) (sym same) ∙ div-add-mod (suc a) (suc b))
remainder_less (negsuc a) (negsuc b) negative some =
    let same : suc a / suc b ≡ a / suc b = next_same a b (early a b (λ e. some (ap pos (before_multiple a b (last a b e))))) in
    rw same (under a (suc b * (a / suc b)) (a % suc b) b (div-add-mod a (suc b)) (mod-lt a (zero-lt-suc b)))

-- ---- what fits into 64 bits

negated_fits : (q : ℕ) → q < 2 ^ 63 → FitsSigned w64 (neg_ℤ (pos q))
negated_fits zero small = omega arith
negated_fits (suc q) small = omega (arith, small)

quotient_small : (a b : ℕ) → a < 2 ^ 63 → suc b - 1 - a % suc b ≢ 0 → suc (a / suc b) < 2 ^ 63
quotient_small a zero small some = absurd (some (omega (arith, mod-lt a (zero-lt-suc 0))))
quotient_small a (suc b) small some = let h : a / suc (suc b) < 2 ^ 63 - 1 = div_below a (suc (suc b)) (2 ^ 63 - 1) (omega arith) (omega (arith, small)) in omega (arith, h)

quotient_fits : (a b : ℤ) → FitsSigned w64 a → b <ℤ pos 0 → int_rem_euclid a b ≢ pos 0 → FitsSigned w64 (int_div_euclid a b)
quotient_fits a (pos b) fits negative some = let h : ⊥ = omega (arith, ints, negative) in absurd h
quotient_fits (pos a) (negsuc b) fits negative some = negated_fits (a / suc b) (omega (arith, fits, div-le_self a (suc b)))
quotient_fits (negsuc a) (negsuc b) fits negative some = let small : suc (a / suc b) < 2 ^ 63 = quotient_small a b (omega (arith, fits)) (λ e. some (ap pos e)) in omega (arith, small)

less_fits : (a b : ℤ) → FitsSigned w64 a → b <ℤ pos 0 → int_rem_euclid a b ≢ pos 0 → FitsSigned w64 (int_div_euclid a b -ℤ pos 1)
less_fits a (pos b) fits negative some = let h : ⊥ = omega (arith, ints, negative) in absurd h
less_fits (pos a) (negsuc b) fits negative some = subst (λ z. FitsSigned w64 z) (less_one (a / suc b)) (omega (arith, fits, div-le_self a (suc b)))
less_fits (negsuc a) (negsuc b) fits negative some = subst (λ z. FitsSigned w64 z) (back (a / suc b)) (omega (arith, fits, div-le_self a (suc b)))
  where
    back : (q : ℕ) → pos q ≡ pos (suc q) -ℤ pos 1
    back q = omega (arith, ints)

pub quotient_less : (a b : ℤ) → FitsSigned w64 a → b <ℤ pos 0 → int_rem_euclid a b ≢ pos 0 → int_wrapping_div_euclid w64 a b -ℤ pos 1 ≡ wrapped (floor_quotient a b)
quotient_less a b fits negative some =
    ap (λ z. z -ℤ pos 1) (to_z-of_z (quotient_fits a b fits negative some))
    ∙ sym (to_z-of_z (less_fits a b fits negative some))
    ∙ ap wrapped (sym (floor_less a b negative some))
