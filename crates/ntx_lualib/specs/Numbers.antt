-- Integers (Lua 5.3 Reference Manual, section 6.7), which are the only numbers: no text is one.
--     absolute n           the absolute value, which wraps at 64 bits
--     greatest, least      of one or more
--     math_abs, math_max, math_min
use Rattle.std.specs.Prelude.{◌+◌, ◌-◌, ◌^◌, nat_eq, if◌then◌else◌, ℤ, pos, negsuc, List, [], ◌∷◌, fold, Result, Ok, Err}
use Rattle.std.specs.Int.{int_max, int_min}
use Rattle.ntx_values.specs.declared.value.Value.{Value}
use Rattle.ntx_values.specs.declared.value.Value.TheVariants.{Int}
use Rattle.ntx_values.specs.declared.why.LuaWhy.{LuaWhy}
use Rattle.ntx_values.specs.declared.why.LuaWhy.TheVariants.{BadArgument}
use Rattle.ntx_lualib.specs.Arguments.{◌>>=◌, argument, integer_of, each_of}

-- The least integer of 64 bits, -2^63, stays as it is.
abbrev pub absolute : ℤ → ℤ
absolute (pos n) = pos n
absolute (negsuc n) = if nat_eq n (2 ^ 63 - 1) then negsuc n else pos (n + 1)

abbrev pub greatest : ℤ → List ℤ → ℤ
greatest n ns = fold int_max n ns

abbrev pub least : ℤ → List ℤ → ℤ
least n ns = fold int_min n ns

-- at least one integer has to be given
abbrev pub of_some : (ℤ → List ℤ → ℤ) → List ℤ → Result (List Value) LuaWhy
of_some choose [] = Err BadArgument
of_some choose (n ∷ ns) = Ok (Int (choose n ns) ∷ [])

abbrev pub math_abs : List Value → Result (List Value) LuaWhy
math_abs args = do
  n ← integer_of (argument args 0)
  Ok (Int (absolute n) ∷ [])

abbrev pub math_max : List Value → Result (List Value) LuaWhy
math_max args = do
  ns ← each_of integer_of args
  of_some greatest ns

abbrev pub math_min : List Value → Result (List Value) LuaWhy
math_min args = do
  ns ← each_of integer_of args
  of_some least ns
