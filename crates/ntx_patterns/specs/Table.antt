-- What patterns come to as a table: the digits that the patterns with the same symbols have, each the greatest of its place. It depends neither
-- on the order of the patterns nor on repeated ones.
use Rattle.std.specs.Prelude.{ℕ, max, List, [], ◌∷◌, bytes_eq, if◌then◌else◌}
use Rattle.ntx_patterns.specs.Pattern.{Pattern}

-- the digits for each list of symbols; empty if there is no pattern
abbrev pub Table : Type 0
Table = List ℕ → List ℕ

-- place by place the greater digit
abbrev pub greater_digits : List ℕ → List ℕ → List ℕ
greater_digits [] others = others
greater_digits (digit ∷ digits) [] = digit ∷ digits
greater_digits (digit ∷ digits) (other ∷ others) = max digit other ∷ greater_digits digits others

-- the table of a list of patterns
abbrev pub table_of : List Pattern → Table
table_of [] symbols = []
table_of (pattern ∷ patterns) symbols =
    if bytes_eq pattern.symbols symbols then greater_digits pattern.digits (table_of patterns symbols) else table_of patterns symbols
