-- A hyphenation pattern, and the word of a pattern file that writes it (F. M. Liang, "Word Hy-phen-a-tion by Com-put-er", 1983; "TeX: The
-- Program", sections 919 to 921): letters with digits before, between and after them, and dots for the ends of a word.
use Rattle.std.specs.Prelude.{ℕ, ◌-◌, ◌==◌, nat_le, Bool, true, false, not, ◌&&◌, List, [], ◌∷◌, length, take, filter, count_by, slice_index, Option, Some, None, if◌then◌else◌}

-- A pattern: its symbols, which are letters and dots, and a digit before each symbol and after the last one; a digit that is not written is 0.
pub record Pattern : Type 0 where
  pub symbols : List ℕ
  pub digits : List ℕ

-- the dot, which represents an end of a word
abbrev pub dot : ℕ
dot = 46

abbrev pub is_letter : ℕ → Bool
is_letter byte = nat_le 97 byte && nat_le byte 122

abbrev pub is_digit : ℕ → Bool
is_digit byte = nat_le 48 byte && nat_le byte 57

abbrev pub is_symbol : ℕ → Bool
is_symbol byte = not (is_digit byte)

-- a word without a dot at its beginning
abbrev pub after_dot : List ℕ → List ℕ
after_dot [] = []
after_dot (byte ∷ bytes) = if byte == dot then bytes else byte ∷ bytes

-- a word without a dot at its end
abbrev pub before_dot : List ℕ → List ℕ
before_dot word = if slice_index word (length word - 1) == dot then take (length word - 1) word else word

-- letters and digits, with no digit directly after another one; the first argument says whether a digit stands before them
abbrev pub is_spaced : Bool → List ℕ → Bool
is_spaced after_digit [] = true
is_spaced after_digit (byte ∷ bytes) = if is_digit byte then not after_digit && is_spaced true bytes else is_letter byte && is_spaced false bytes

-- 1 to 63 letters, with at most one digit before, between and after them
abbrev pub is_lettered : List ℕ → Bool
is_lettered bytes = is_spaced false bytes && nat_le 1 (count_by is_letter bytes) && nat_le (count_by is_letter bytes) 63

-- the same with an optional dot at the beginning and at the end
abbrev pub is_pattern : List ℕ → Bool
is_pattern word = is_lettered (before_dot (after_dot word))

-- the digits before the symbols and after the last one, where this digit stands before the bytes
abbrev pub digits_after : ℕ → List ℕ → List ℕ
digits_after digit [] = digit ∷ []
digits_after digit (byte ∷ bytes) = if is_digit byte then digits_after (byte - 48) bytes else digit ∷ digits_after 0 bytes

-- the pattern that a word writes, if it writes one
abbrev pub pattern_of : List ℕ → Option Pattern
pattern_of word = if is_pattern word then Some (record { symbols = filter is_symbol word; digits = digits_after 0 word }) else None
