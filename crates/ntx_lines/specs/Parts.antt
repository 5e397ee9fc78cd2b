-- What the lines of a paragraph are made of ("TeX: The Program", sections 877 to 883): the names of its nodes, parted at the breaks. Places are
-- counted as those of items are: from 1, place 0 is the start, and the place after the last node is the end.
--     between list from to              what stands between two places
--     parts_of items names from places  one part for each line, where the lines end at these places and the first one begins after `from`
-- The nodes that a break discards are those whose items do not count in the line after it.
use Rattle.std.specs.Prelude.{ℕ, zero, suc, ◌-◌, if◌then◌else◌, Option, None, Some, List, [], ◌∷◌, take, drop, slice_get}
use Rattle.std.specs.List.{prefix_len}
use Rattle.ntx_item.specs.declared.item.Item.{Item}
use Rattle.ntx_legal.specs.Kept.{is_discardable, keeps_all}

pub record Part : Type 0 where
  -- the nodes before the break, without those that the break before this line discards
  pub body : List ℕ
  -- the node at the break, or nothing at the end of the paragraph
  pub at : Option ℕ
  -- the node after the break
  pub after : Option ℕ
  -- the nodes that the break discards, up to the next break
  pub discarded : List ℕ

abbrev pub between : {A : Type 0} → List A → ℕ → ℕ → List A
between list from to = take (to - from - 1) (drop from list)

-- the name at a place
abbrev pub name_at : List ℕ → ℕ → Option ℕ
name_at names zero = None
name_at names (suc i) = slice_get names i

-- how many nodes the break at `from` discards, where the next break is at `to`
abbrev pub discarded_count : List Item → ℕ → ℕ → ℕ
discarded_count items from to = if keeps_all items from then 0 else prefix_len is_discardable (between items from to)

abbrev pub body_of : List Item → List ℕ → ℕ → ℕ → List ℕ
body_of items names from to = drop (discarded_count items from to) (between names from to)

-- what the break at a place discards, up to the next one; the last break discards nothing
abbrev pub discarded_at : List Item → List ℕ → ℕ → Option ℕ → List ℕ
discarded_at items names to None = []
discarded_at items names to (Some next) = take (discarded_count items to next) (between names to next)

-- what the line between two places is made of, before the break at the next one
abbrev pub part_of : List Item → List ℕ → ℕ → ℕ → Option ℕ → Part
part_of items names from to next = record {
  body = body_of items names from to;
  at = name_at names to;
  after = name_at names (suc to);
  discarded = discarded_at items names to next;
}

abbrev pub parts_of : List Item → List ℕ → ℕ → List ℕ → List Part
parts_of items names from [] = []
parts_of items names from (to ∷ later) = part_of items names from to (slice_get later 0) ∷ parts_of items names to later
