-- Nodes of a trie whose places name their children.
use Rattle.std.specs.Prelude.{ℕ, List, [], ◌∷◌, length, IfSome}
use Rattle.std.specs.Option.{option_map, unwrap_or}
use Rattle.ntx_patterns.specs.declared.trie.Node.{Node, out-Node}
use Rattle.ntx_patterns.specs.Places.{IsPacked}
use Rattle.ntx_patterns.specs.Kept.{row, child_in, child_of}

-- at the end of a way
abbrev pub IsPackedAt : List ℕ → Node → Type 0
IsPackedAt [] node = IsPacked (out-Node node).places (length (out-Node node).children.items)
IsPackedAt (symbol ∷ way) node = IfSome (child_of node symbol) (IsPackedAt way)

-- everywhere
abbrev pub AllPacked : Node → Type 0
AllPacked node = (way : List ℕ) → IsPackedAt way node

-- places and children of a node all of whose nodes are packed
pub record ArePacked (places : List ℕ) (children : List Node) : Type 0 where
  pub here : IsPacked places (length children)
  pub below : (symbol : ℕ) → IfSome (child_in places children symbol) AllPacked

-- the table after a symbol
abbrev pub row_in : List ℕ → List Node → ℕ → List ℕ → List ℕ
row_in places children symbol key = unwrap_or (option_map (λ child. row child key) (child_in places children symbol)) []
