-- Which items of a line count ("TeX: The Program", sections 148, 837 and 879): those between its two places, except the items
-- that the break discards.
--     kept_items items from to          the items of the line between two places that count
use Rattle.std.specs.Prelude.{ℕ, ◌-◌, nat_eq, Bool, true, false, ◌||◌, not, if◌then◌else◌, Option, Some, List, take, drop}
use Rattle.std.specs.List.{prefix_len}
use Rattle.ntx_item.specs.declared.item.Item.{Item}
use Rattle.ntx_item.specs.declared.item.Item.TheVariants.{Glue, Kern, Penalty, Disc}
use Rattle.ntx_legal.specs.Places.{item_at}

-- an item that is discarded directly after a break
abbrev pub is_discardable : Item → Bool
is_discardable (Glue spec) = true
is_discardable (Penalty p) = true
is_discardable (Kern w font) = not font
is_discardable _ = false

-- whether the place is a discretionary that shows something after the break
abbrev pub has_post : Option Item → Bool
has_post (Some (Disc pre post replace pre_empty post_empty regular)) = not post_empty
has_post _ = false

-- nothing is discarded at the start of the paragraph, or after a discretionary that shows something after the break
abbrev pub keeps_all : List Item → ℕ → Bool
keeps_all items from = nat_eq from 0 || has_post (item_at items from)

abbrev pub items_between : List Item → ℕ → ℕ → List Item
items_between items from to = take (to - from - 1) (drop from items)

abbrev pub without_discardable : List Item → List Item
without_discardable items = drop (prefix_len is_discardable items) items

abbrev pub kept_items : List Item → ℕ → ℕ → List Item
kept_items items from to =
    let between = items_between items from to in if keeps_all items from then between else without_discardable between
