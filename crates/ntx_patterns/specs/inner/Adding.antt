-- Adding patterns to a table.
use Rattle.std.specs.Prelude.{ℕ, List, [], ◌∷◌, bytes_eq, if◌then◌else◌}
use Rattle.ntx_patterns.specs.Pattern.{Pattern}
use Rattle.ntx_patterns.specs.Table.{Table, greater_digits}

-- the table with these digits added for these symbols
abbrev pub added : List ℕ → List ℕ → Table → Table
added symbols digits table key = if bytes_eq symbols key then greater_digits (table key) digits else table key

-- the table with a pattern added
abbrev pub with_pattern : Table → Pattern → Table
with_pattern table pattern = added pattern.symbols pattern.digits table

-- the table with patterns added one after another
abbrev pub with_patterns : Table → List Pattern → Table
with_patterns table [] = table
with_patterns table (pattern ∷ patterns) = with_patterns (with_pattern table pattern) patterns
