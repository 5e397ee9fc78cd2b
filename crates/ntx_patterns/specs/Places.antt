-- The places of a node's children in a trie.
use Rattle.std.specs.Prelude.{◌≡◌, ◌≢◌, ℕ, ◌+◌, ◌-◌, ◌<◌, ◌==◌, List, length, count_by, slice_index, slice_index_or, if◌then◌else◌}
use Rattle.ntx_patterns.specs.Pattern.{dot, is_letter}

-- the number of a symbol among the letters and the dot; 27 for any other byte
abbrev pub symbol_index : ℕ → ℕ
symbol_index symbol = if is_letter symbol then symbol - 97 else if symbol == dot then 26 else 27

-- a place at which there is no child
abbrev pub absent : ℕ
absent = 255

-- the place of a symbol's child
abbrev pub place_of : List ℕ → ℕ → ℕ
place_of places symbol = slice_index_or places (symbol_index symbol) absent

-- The places name n children: as many places as there are children, each place another child.
pub record IsPacked (places : List ℕ) (n : ℕ) : Type 0 where
  pub long : length places ≡ 27
  pub filled : n + count_by (λ place. place == absent) places ≡ 27
  pub inside : (i : ℕ) → i < 27 → slice_index places i ≢ absent → slice_index places i < n
  pub apart : (i j : ℕ) → i < 27 → j < 27 → slice_index places i ≢ absent → slice_index places i ≡ slice_index places j → i ≡ j
