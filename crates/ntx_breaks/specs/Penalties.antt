-- What a break costs, and which breaks are forced or hyphenated ("TeX: The Program", sections 829 to 831, 859 and 866 to 869).
--     penalty_of params item            the penalty of a break at an item
--     penalty_at params items place     the penalty of a break, never below -10000
--     is_forced params items place      whether a line has to end there
--     is_end items place                whether this is the end of the paragraph
--     is_hyphenated items place         whether a break there counts as one at a hyphen
use Rattle.std.specs.Prelude.{ℕ, zero, suc, nat_lt, ℤ, pos, negsuc, int_lt, int_le, Bool, true, false, if◌then◌else◌, Option, Some, None, List, length}
use Rattle.ntx_item.specs.declared.item.Item.{Item}
use Rattle.ntx_item.specs.declared.item.Item.TheVariants.{Penalty, Disc}
use Rattle.ntx_item.specs.Settings.{Settings}
use Rattle.ntx_legal.specs.Places.{item_at, disc_penalty}

-- a penalty of this much or less forces a break, -10000
abbrev pub forcing : ℤ
forcing = negsuc 9999

-- the end of the paragraph is forced; glue and kerns cost nothing
abbrev pub penalty_of : Settings → Option Item → ℤ
penalty_of params None = forcing
penalty_of params (Some (Penalty p)) = p
penalty_of params (Some (Disc pre post replace pre_empty post_empty regular)) = disc_penalty params pre_empty
penalty_of params (Some item) = pos 0

abbrev pub at_least_forcing : ℤ → ℤ
at_least_forcing p = if int_lt p forcing then forcing else p

abbrev pub penalty_at : Settings → List Item → ℕ → ℤ
penalty_at params items place = at_least_forcing (penalty_of params (item_at items place))

abbrev pub is_forced : Settings → List Item → ℕ → Bool
is_forced params items place = int_le (penalty_of params (item_at items place)) forcing

abbrev pub is_end : List Item → ℕ → Bool
is_end items place = nat_lt (length items) place

-- discretionaries and the end are hyphenated, and the start is not
abbrev pub is_hyphen : Option Item → Bool
is_hyphen None = true
is_hyphen (Some (Disc pre post replace pre_empty post_empty regular)) = true
is_hyphen (Some item) = false

abbrev pub is_hyphenated : List Item → ℕ → Bool
is_hyphenated items zero = false
is_hyphenated items (suc i) = is_hyphen (item_at items (suc i))
