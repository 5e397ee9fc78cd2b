-- The points at which a word may be divided (Liang's thesis; "TeX: The Program", sections 919 to 926). The letters in lower case stand between two
-- dots. Each pattern is matched at each place of this text, and the value of a gap between two symbols is the greatest digit that a match puts
-- there, 0 if none does. Where the value is odd, the word may be divided.
--     points_of patterns word left right      by all pairs of a pattern and a place
--     points_in table word left right         the same from the table of the patterns
use Rattle.std.specs.Prelude.{ℕ, zero, suc, ◌+◌, ◌-◌, ◌%◌, ◌==◌, max, nat_le, nat_eq, Bool, ◌&&◌, List, [], ◌∷◌, ◌++◌, length, take, drop, map, filter, slice_index, if◌then◌else◌}
use Rattle.std.specs.List.{starts_with, range_with_len}
use Rattle.std.specs.Char.{to_ascii_lowercase}
use Rattle.ntx_patterns.specs.Pattern.{Pattern, dot, is_letter}
use Rattle.ntx_patterns.specs.Table.{Table}

-- a letter in lower case; any other byte is 0, and no pattern has the symbol 0
abbrev pub symbol_of : ℕ → ℕ
symbol_of byte = if is_letter (to_ascii_lowercase byte) then to_ascii_lowercase byte else 0

-- the symbols of a word between two dots
abbrev pub dotted : List ℕ → List ℕ
dotted word = dot ∷ map symbol_of word ++ dot ∷ []

-- the greatest of f 0, f 1 and so on up to f (n - 1); 0 if n is 0
unfoldable pub greatest : ℕ → (ℕ → ℕ) → ℕ
greatest zero f = 0
greatest (suc n) f = max (greatest n f) (f n)

-- The digit before symbol `gap` of a text, if the first of these digits stands before symbol `place`; 0 if there is none.
abbrev pub digit_at : List ℕ → ℕ → ℕ → ℕ
digit_at digits place gap = if nat_le place gap then slice_index digits (gap - place) else 0

-- ---- by all pairs of a pattern and a place

-- the digit that a pattern puts there if it matches at the start of the rest of the text from symbol `place` on; else 0
abbrev pub digit_of : Pattern → List ℕ → ℕ → ℕ → ℕ
digit_of pattern rest place gap = if starts_with nat_eq rest pattern.symbols then digit_at pattern.digits place gap else 0

-- the greatest digit that any of the patterns puts there, from any place
abbrev pub value_of : List Pattern → List ℕ → ℕ → ℕ
value_of [] text gap = 0
value_of (pattern ∷ patterns) text gap = max (greatest (length text) (λ place. digit_of pattern (drop place text) place gap)) (value_of patterns text gap)

-- ---- from a table

-- the greatest digit that the table puts there for the first symbols, however many, of the rest of the text from symbol `place` on
abbrev pub digit_in : Table → List ℕ → ℕ → ℕ → ℕ
digit_in table rest place gap = greatest (length rest + 1) (λ count. digit_at (table (take count rest)) place gap)

-- the greatest of these, over all places
unfoldable pub value_in : Table → List ℕ → ℕ → ℕ
value_in table text gap = greatest (length text) (λ place. digit_in table (drop place text) place gap)

-- ---- points

-- Gap i, after i letters of n, is allowed: its value is odd, i is at least `left` and n - i at least `right`. It stands before symbol i + 1 of
-- the dotted word.
abbrev pub is_allowed : (ℕ → ℕ) → ℕ → ℕ → ℕ → ℕ → Bool
is_allowed value n left right i = value (i + 1) % 2 == 1 && nat_le left i && nat_le right (n - i)

-- the allowed gaps of 0 to n, ascending
abbrev pub allowed_gaps : (ℕ → ℕ) → ℕ → ℕ → ℕ → List ℕ
allowed_gaps value n left right = filter (is_allowed value n left right) (range_with_len 0 (n + 1))

unfoldable pub points_of : List Pattern → List ℕ → ℕ → ℕ → List ℕ
points_of patterns word left right = allowed_gaps (value_of patterns (dotted word)) (length word) left right

unfoldable pub points_in : Table → List ℕ → ℕ → ℕ → List ℕ
points_in table word left right = allowed_gaps (value_in table (dotted word)) (length word) left right
