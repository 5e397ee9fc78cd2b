-- Bytes of texts (Lua 5.3 Reference Manual, section 6.4). Places count from 1. Where this differs from the manual: a function on texts
-- takes texts alone, and no integer as one; `string.byte` gives one value, which is nil outside the text; `string.rep` puts nothing
-- between the copies.
--     place len i          the place that a number names in a text of a length; a negative one counts from the end
--     substring bytes i j  the bytes from place i to place j
--     string_len, string_sub, string_byte, string_char, string_rep
use Rattle.std.specs.Prelude.{ℕ, zero, suc, ◌-◌, nat_lt, if◌then◌else◌, ℤ, pos, negsuc, List, [], ◌∷◌, length, take, drop, slice_get, Some, None, Result, Ok, Err}
use Rattle.std.specs.List.{repeat}
use Rattle.ntx_values.specs.State.{StoreState}
use Rattle.ntx_values.specs.declared.value.Value.{Value}
use Rattle.ntx_values.specs.declared.value.Value.TheVariants.{Nil, Int}
use Rattle.ntx_values.specs.declared.why.LuaWhy.{LuaWhy}
use Rattle.ntx_values.specs.declared.why.LuaWhy.TheVariants.{BadArgument}
use Rattle.ntx_lualib.specs.Arguments.{◌>>=◌, argument, text_of, integer_of, integer_or, each_of}

-- -1 is the last place, and a number before the first place gives 0
abbrev pub place : ℕ → ℤ → ℕ
place len (pos n) = n
place len (negsuc n) = len - n

-- A first place below 1 is 1, a last one past the end is the end, and there is nothing where the first is past the last.
abbrev pub substring : List ℕ → ℤ → ℤ → List ℕ
substring bytes i j = drop (place (length bytes) i - 1) (take (place (length bytes) j) bytes)

-- the byte at a place as an integer, nil outside
abbrev pub byte_at : List ℕ → ℕ → Value
byte_at bytes zero = Nil
byte_at bytes (suc n) = elim (slice_get bytes n) [ None ↦ Nil | Some b ↦ Int (pos b) ]

-- a byte by its code
abbrev pub byte_of : Value → Result ℕ LuaWhy
byte_of (Int (pos n)) = if nat_lt n 256 then Ok n else Err BadArgument
byte_of _ = Err BadArgument

-- how many times a text is repeated
abbrev pub times : ℤ → ℕ
times (pos n) = n
times (negsuc n) = 0

abbrev pub string_len : List Value → StoreState → Result (List Value) LuaWhy
string_len args store = do
  s ← text_of store (argument args 0)
  Ok (Int (pos (length s)) ∷ [])

-- the last place is -1 if it is nil
abbrev pub string_sub : List Value → StoreState → Result (List ℕ) LuaWhy
string_sub args store = do
  s ← text_of store (argument args 0)
  i ← integer_of (argument args 1)
  j ← integer_or (negsuc 0) (argument args 2)
  Ok (substring s i j)

-- the place is 1 if it is nil
abbrev pub string_byte : List Value → StoreState → Result (List Value) LuaWhy
string_byte args store = do
  s ← text_of store (argument args 0)
  i ← integer_or (pos 1) (argument args 1)
  Ok (byte_at s (place (length s) i) ∷ [])

abbrev pub string_char : List Value → Result (List ℕ) LuaWhy
string_char args = each_of byte_of args

abbrev pub string_rep : List Value → StoreState → Result (List ℕ) LuaWhy
string_rep args store = do
  s ← text_of store (argument args 0)
  n ← integer_of (argument args 1)
  Ok (repeat (times n) s)
