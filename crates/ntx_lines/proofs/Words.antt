-- Numbers that a word holds as they are.
use Rattle.std.proofs.Common.{◌≡◌, ◌^◌, ℤ, to_z, of_z, w64, sym, subst, arith}
use Rattle.std.specs.Prelude.{◌+ℤ◌, ◌-ℤ◌}
use Rattle.std.proofs.lemmas.Int.{ints}
use Rattle.ntx_num.specs.Dimension.{max_penalty, IsWithin, IsDimension}

pub same_dimension : (x : ℤ) → IsDimension x → to_z w64 (of_z w64 x) ≡ x
same_dimension x r = omega (arith, ints, r.0, r.1)

pub same_penalty : (x : ℤ) → IsWithin (10 ^ 8) x → to_z w64 (of_z w64 x) ≡ x
same_penalty x r = omega (arith, ints, r.0, r.1)

pub same_sum : (x : ℤ) → IsWithin max_penalty x → to_z w64 (of_z w64 x) ≡ x
same_sum x r = omega (arith, ints, r.0, r.1)

pub same_left : (x width depth height : ℤ) → IsDimension width → IsDimension depth → IsDimension height → x ≡ (width -ℤ depth) -ℤ height → to_z w64 (of_z w64 x) ≡ (width -ℤ depth) -ℤ height
same_left x width depth height w d h e = omega (arith, ints, w.0, w.1, d.0, d.1, h.0, h.1, e)

pub penalty_kept : (x : ℤ) → IsWithin (10 ^ 8) x → IsWithin (10 ^ 8) (to_z w64 (of_z w64 x))
penalty_kept x r = subst (λ (y : ℤ). IsWithin (10 ^ 8) y) (sym (same_penalty x r)) r

-- ---- the same sums and differences
pub summed : (a b c d w x y z : ℤ) → a ≡ w → b ≡ x → c ≡ y → d ≡ z → ((a +ℤ b) +ℤ c) +ℤ d ≡ ((w +ℤ x) +ℤ y) +ℤ z
summed a b c d w x y z p q r s = cc

pub parted : (a b c x y z : ℤ) → a ≡ x → b ≡ y → c ≡ z → (a -ℤ b) -ℤ c ≡ (x -ℤ y) -ℤ z
parted a b c x y z p q r = cc
