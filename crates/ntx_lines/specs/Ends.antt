-- The two ends of a list, which may be empty.
--     ends_of names        those of a list of these names
--     joined one two       those of a list and then another
--     with_last ends n     those of a list with one node more at its end
use Rattle.std.specs.Prelude.{ℕ, ◌-◌, List, length, None, Some, slice_get}
use Rattle.std.specs.Option.{option_or}
use Rattle.ntx_lines.specs.declared.ends.Ends.{Ends}

abbrev pub no_nodes : Ends
no_nodes = record { first = None; last = None }

abbrev pub ends_of : List ℕ → Ends
ends_of names = record { first = slice_get names 0; last = slice_get names (length names - 1) }

abbrev pub joined : Ends → Ends → Ends
joined one two = record { first = option_or one.first two.first; last = option_or two.last one.last }

abbrev pub one_node : ℕ → Ends
one_node n = record { first = Some n; last = Some n }

abbrev pub with_last : Ends → ℕ → Ends
with_last ends n = joined ends (one_node n)
