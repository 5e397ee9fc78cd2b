-- Where a line of a paragraph may end ("TeX: The Program", sections 148 and 866 to 869).
--     item_at items place               the item at a place: items are counted from 1, place 0 is the start of the paragraph, and
--                                       the place after the last item is its end
--     is_legal params discs items place whether a line may end there
--     places_of params discs items      the places where a line may end, in ascending order
use Rattle.std.specs.Prelude.{ℕ, zero, suc, ◌+◌, nat_eq, ℤ, pos, int_lt, Bool, true, false, ◌&&◌, ◌||◌, not, if◌then◌else◌, Option, Some, None, List, length}
use Rattle.std.specs.List.{filter, range_with_len, slice_get}
use Rattle.ntx_item.specs.declared.item.Item.{Item}
use Rattle.ntx_item.specs.declared.item.Item.TheVariants.{Box, Glyph, Rule, Glue, Kern, Penalty, Disc}
use Rattle.ntx_item.specs.Settings.{Settings}

abbrev pub item_at : List Item → ℕ → Option Item
item_at items zero = None
item_at items (suc i) = slice_get items i

-- a penalty of this much forbids a break
abbrev pub forbidding : ℤ
forbidding = pos 10000

-- whether a line may end at glue directly after this item
abbrev pub precedes_break : Item → Bool
precedes_break (Box size shift) = true
precedes_break (Glyph size) = true
precedes_break (Rule size) = true
precedes_break (Disc pre post replace pre_empty post_empty regular) = true
precedes_break (Kern w font) = font
precedes_break (Glue spec) = false
precedes_break (Penalty p) = false

abbrev pub is_glue : Item → Bool
is_glue (Glue spec) = true
is_glue _ = false

-- whether there is an item that passes a test
abbrev pub is_there_with : (Item → Bool) → Option Item → Bool
is_there_with test None = false
is_there_with test (Some item) = test item

-- what a break at a discretionary costs: one that shows nothing before the break costs exhyphenpenalty
abbrev pub disc_penalty : Settings → Bool → ℤ
disc_penalty params pre_empty = if pre_empty then params.exhyphenpenalty else params.hyphenpenalty

-- whether a line may end at this item, which stands between the two others; `discs` is whether hyphenation is tried
abbrev pub may_break : Settings → Bool → Option Item → Item → Option Item → Bool
may_break params discs before (Glue spec) after = is_there_with precedes_break before
may_break params discs before (Kern w font) after = not font && is_there_with is_glue after
may_break params discs before (Penalty p) after = int_lt p forbidding
may_break params discs before (Disc pre post replace pre_empty post_empty regular) after = (discs || not regular) && int_lt (disc_penalty params pre_empty) forbidding
may_break params discs before (Box size shift) after = false
may_break params discs before (Glyph size) after = false
may_break params discs before (Rule size) after = false

-- a line may end at some items, and at the end
abbrev pub is_legal : Settings → Bool → List Item → ℕ → Bool
is_legal params discs items zero = false
is_legal params discs items (suc i) =
    nat_eq i (length items) || is_there_with (λ item. may_break params discs (item_at items i) item (item_at items (i + 2))) (item_at items (suc i))

abbrev pub places_of : Settings → Bool → List Item → List ℕ
places_of params discs items = filter (is_legal params discs items) (range_with_len 1 (length items + 1))
