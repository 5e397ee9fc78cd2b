-- What the bytes of a numeral and of a text represent (Lua 5.3 Reference Manual, section 3.1). A name represents its bytes.
use Rattle.std.specs.Prelude.{ℕ, zero, suc, ◌^◌, ◌%◌, nat_lt, nat_le, ◌==◌, ◌&&◌, ◌||◌, Bool, false, List, [], ◌∷◌, take, drop, slice_index, ℤ, pos, Option, None, Some, option_map, option_and_then, if◌then◌else◌}
use Rattle.std.specs.List.{list_all, prefix_len}
use Rattle.std.specs.Char.{is_ascii_digit, is_ascii_hexdigit}
use Rattle.std.specs.Int.{w64, cast_signed}
use Rattle.std.specs.Str.Parse.{digits_value}
use Rattle.ntx_syntax.specs.Bytes.{is_line_end, is_quote}

-- ---- numerals

-- one digit or more
abbrev pub is_decimal : List ℕ → Bool
is_decimal [] = false
is_decimal (d ∷ ds) = is_ascii_digit d && list_all is_ascii_digit ds

-- `0x` and one hexadecimal digit or more
abbrev pub is_hexadecimal : List ℕ → Bool
is_hexadecimal (o ∷ x ∷ d ∷ ds) = o == 48 && x == 120 && is_ascii_hexdigit d && list_all is_ascii_hexdigit ds
is_hexadecimal _ = false

-- The integer that a numeral represents. A hexadecimal one wraps to 64 bits, and a decimal one above 2 ^ 63 - 1 represents none.
abbrev pub numeral_value : List ℕ → Option ℤ
numeral_value bytes =
    if is_hexadecimal bytes then Some (cast_signed w64 (digits_value 16 (drop 2 bytes) % 2 ^ 64))
    else (if is_decimal bytes && nat_lt (digits_value 10 bytes) (2 ^ 63) then Some (pos (digits_value 10 bytes))
    else None)

-- ---- escapes

-- the byte that a letter or a mark after a backslash represents
abbrev pub plain_escape : ℕ → Option ℕ
plain_escape c =
    if c == 97 then Some 7
    else (if c == 98 then Some 8
    else (if c == 102 then Some 12
    else (if c == 110 then Some 10
    else (if c == 114 then Some 13
    else (if c == 116 then Some 9
    else (if c == 118 then Some 11
    else (if c == 92 || is_quote c then Some c
    else None)))))))

-- The byte that the digits at the beginning write, of which up to three are taken, and how many they are. It is 255 at most.
abbrev pub decimal_escape : List ℕ → Option (ℕ × ℕ)
decimal_escape bytes =
    let count = prefix_len is_ascii_digit (take 3 bytes) in
    let value = digits_value 10 (take count bytes) in
    if nat_le value 255 then Some (value, count) else None

-- `x` and two hexadecimal digits
abbrev pub hexadecimal_escape : ℕ → ℕ → Option (ℕ × ℕ)
hexadecimal_escape high low =
    if is_ascii_hexdigit high && is_ascii_hexdigit low then Some (digits_value 16 (high ∷ low ∷ []), 3) else None

-- The byte that c, d and e after a backslash write, and how many of them write it.
abbrev pub escape_of : ℕ → ℕ → ℕ → Option (ℕ × ℕ)
escape_of c d e =
    if c == 120 then hexadecimal_escape d e
    else (if is_ascii_digit c then decimal_escape (c ∷ d ∷ e ∷ [])
    else option_map (λ value. (value, 1)) (plain_escape c))

-- The escape after a backslash, with 0 for what stands past the end, which writes nothing.
abbrev pub escape : List ℕ → Option (ℕ × ℕ)
escape bytes = escape_of (slice_index bytes 0) (slice_index bytes 1) (slice_index bytes 2)

-- ---- texts

abbrev pub if_empty : List ℕ → Option (List ℕ)
if_empty [] = Some []
if_empty (b ∷ bytes) = None

-- The characters that the bytes after an opening quote spell, up to the closing quote, which is their last byte. A backslash begins an
-- escape, LF stands in no text, and any other byte represents itself. The number counts the bytes at the beginning that belong to an escape.
abbrev pub characters : ℕ → ℕ → List ℕ → Option (List ℕ)
characters quote escaped [] = None
characters quote (suc escaped) (b ∷ bytes) = characters quote escaped bytes
characters quote zero (b ∷ bytes) =
    if b == quote then if_empty bytes
    else (if is_line_end b then None
    else (if b == 92 then option_and_then (λ e. option_map (λ others. e.0 ∷ others) (characters quote e.1 bytes)) (escape bytes)
    else option_map (λ others. b ∷ others) (characters quote 0 bytes)))

-- The bytes that a text represents, of those that spell it with its quotes.
abbrev pub text_value : List ℕ → Option (List ℕ)
text_value [] = None
text_value (quote ∷ bytes) = if is_quote quote then characters quote 0 bytes else None
