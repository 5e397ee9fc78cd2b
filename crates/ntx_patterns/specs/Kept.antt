-- Patterns as they are kept: a trie, seen as a table ("TeX: The Program", sections 943 to 949).
use Rattle.std.specs.Prelude.{ℕ, List, [], ◌∷◌, Option, slice_get}
use Rattle.std.specs.Option.{option_map, unwrap_or}
use Rattle.ntx_patterns.specs.declared.patterns.Patterns.{Patterns}
use Rattle.ntx_patterns.specs.declared.trie.Node.{Node, out-Node}
use Rattle.ntx_patterns.specs.Places.{place_of}
use Rattle.ntx_patterns.specs.Table.{Table}

-- the child for a symbol among the children that stand at these places
abbrev pub child_in : List ℕ → List Node → ℕ → Option Node
child_in places children symbol = slice_get children (place_of places symbol)

abbrev pub child_of : Node → ℕ → Option Node
child_of node symbol = child_in (out-Node node).places (out-Node node).children.items symbol

-- the table of a node: the digits of the node to which the symbols lead; empty if they lead to none
unfoldable pub row : Node → Table
row node [] = (out-Node node).digits.items
row node (symbol ∷ others) = unwrap_or (option_map (λ child. row child others) (child_of node symbol)) []

-- the table of the patterns that are kept
unfoldable pub table : Patterns → Table
table patterns = row patterns.trie
