-- A line of a document as text: the bytes that it may hold, its fields, and the number that a field writes.
-- The form is this project's own. Lines are those of Rust's `str::lines`, and digits are decimal.
use Rattle.std.specs.Prelude.{ℕ, ◌==◌, nat_le, ◌&&◌, ◌||◌, Bool, not, List, [], ◌∷◌, length, filter, ℤ, pos, neg_ℤ, Option, None, Some, option_map, if◌then◌else◌}
use Rattle.std.specs.List.{slice_split, list_all}
use Rattle.std.specs.Char.{is_ascii_digit}
use Rattle.std.specs.Str.Parse.{digits_value}

-- a space or a tab
abbrev pub is_blank : ℕ → Bool
is_blank byte = byte == 32 || byte == 9

-- a byte that a line may hold: a space, a printed character of ASCII, or a tab
abbrev pub is_plain : ℕ → Bool
is_plain byte = (nat_le 32 byte && nat_le byte 126) || byte == 9

-- a byte of a field
abbrev pub is_in_field : ℕ → Bool
is_in_field byte = not (is_blank byte)

-- a line feed
abbrev pub is_feed : ℕ → Bool
is_feed byte = byte == 10

-- a part between two blanks is a field if it is not empty
abbrev pub is_field : List ℕ → Bool
is_field part = not (length part == 0)

-- the fields of a line: its nonempty parts between blanks
abbrev pub fields_of : List ℕ → List (List ℕ)
fields_of line = filter is_field (slice_split is_blank line)

-- 1 to 10 decimal digits
abbrev pub is_numeral : List ℕ → Bool
is_numeral digits = nat_le 1 (length digits) && nat_le (length digits) 10 && list_all is_ascii_digit digits

-- the number that 1 to 10 decimal digits write
abbrev pub natural_of : List ℕ → Option ℕ
natural_of digits = if is_numeral digits then Some (digits_value 10 digits) else None

-- the number that a field writes: an optional minus sign and digits
abbrev pub number_of : List ℕ → Option ℤ
number_of [] = None
number_of (byte ∷ bytes) =
    if byte == 45 then option_map (λ n. neg_ℤ (pos n)) (natural_of bytes) else option_map pos (natural_of (byte ∷ bytes))
