-- Integers of scripts (Lua 5.3 Reference Manual, sections 3.4.1 and 3.4.2): 64 bits in two's complement. What does not fit wraps.
--     floor_quotient a b, floor_remainder a b      division that rounds toward minus infinity, for a b other than 0
--     shifted_left a k, shifted_right a k          logical shifts, which go the other way if k is negative
--     quotient a b, remainder a b                  the same of every b, of which 0 is refused
use Rattle.std.specs.Prelude.{ℕ, zero, suc, ◌/◌, ◌^◌, nat_le, ℤ, pos, negsuc, neg_ℤ, ◌-ℤ◌, ◌*ℤ◌, if◌then◌else◌, Result, Ok, Err}
use Rattle.std.specs.Int.{w64, cast_signed, cast_unsigned, is_negative, int_div_euclid, int_shl}
use Rattle.ntx_values.specs.declared.why.LuaWhy.{LuaWhy}
use Rattle.ntx_values.specs.declared.why.LuaWhy.TheVariants.{ZeroDivisor}

-- what is left of a number in 64 bits
abbrev pub wrapped : ℤ → ℤ
wrapped z = cast_signed w64 (cast_unsigned w64 z)

-- A positive divisor leaves a remainder that is not negative, and a / b is -a / -b.
abbrev pub floor_quotient : ℤ → ℤ → ℤ
floor_quotient a b = if is_negative b then int_div_euclid (neg_ℤ a) (neg_ℤ b) else int_div_euclid a b

abbrev pub floor_remainder : ℤ → ℤ → ℤ
floor_remainder a b = a -ℤ b *ℤ floor_quotient a b

-- bits that leave are lost, and zeros come in
abbrev pub to_the_left : ℤ → ℕ → ℤ
to_the_left a k = if nat_le 64 k then pos 0 else int_shl w64 a k

abbrev pub to_the_right : ℤ → ℕ → ℤ
to_the_right a k = if nat_le 64 k then pos 0 else cast_signed w64 (cast_unsigned w64 a / 2 ^ k)

abbrev pub shifted_left : ℤ → ℤ → ℤ
shifted_left a (pos k) = to_the_left a k
shifted_left a (negsuc k) = to_the_right a (suc k)

abbrev pub shifted_right : ℤ → ℤ → ℤ
shifted_right a (pos k) = to_the_right a k
shifted_right a (negsuc k) = to_the_left a (suc k)

-- the quotient and the remainder, or their refusal
abbrev pub quotient : ℤ → ℤ → Result ℤ LuaWhy
quotient a (pos zero) = Err ZeroDivisor
quotient a b = Ok (wrapped (floor_quotient a b))

abbrev pub remainder : ℤ → ℤ → Result ℤ LuaWhy
remainder a (pos zero) = Err ZeroDivisor
remainder a b = Ok (floor_remainder a b)
