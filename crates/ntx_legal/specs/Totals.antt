-- Totals of the first items of a list, from which the sums of any line are found in constant time ("TeX: The Program", section 823, keeps
-- running totals for the same end).
--     entry_of items n                  the totals of the first n items
--     AreTotalsOf items totals          one entry for each number of items
use Rattle.std.specs.Prelude.{◌≡◌, ℕ, ◌+◌, ◌-ℤ◌, List, length, take, drop, map}
use Rattle.std.specs.List.{range_with_len, prefix_len}
use Rattle.ntx_item.specs.declared.item.Item.{Item}
use Rattle.ntx_legal.specs.Kept.{is_discardable}
use Rattle.ntx_legal.specs.LineSums.{sums_of}
use Rattle.ntx_legal.specs.declared.stretch.GlueStretch.{GlueStretch}
use Rattle.ntx_legal.specs.declared.sums.Sums.{Sums}
use Rattle.ntx_legal.specs.declared.totals.Entry.{Entry}
use Rattle.ntx_legal.specs.declared.totals.LineTotals.{LineTotals}

-- the sums of the first n items, and the number of items up to the first that is not discarded after a break there
abbrev pub entry_of : List Item → ℕ → Entry
entry_of items n = record { sums = sums_of (take n items); kept = n + prefix_len is_discardable (drop n items) }

abbrev pub AreTotalsOf : List Item → LineTotals → Type 0
AreTotalsOf items totals = totals.entries.items ≡ map (entry_of items) (range_with_len 0 (length items + 1))

-- the difference of two sums
abbrev pub stretch_minus : GlueStretch → GlueStretch → GlueStretch
stretch_minus a b = record { normal = a.normal -ℤ b.normal; fil = a.fil -ℤ b.fil; fill = a.fill -ℤ b.fill; filll = a.filll -ℤ b.filll }

abbrev pub sums_minus : Sums → Sums → Sums
sums_minus a b = record { width = a.width -ℤ b.width; stretch = stretch_minus a.stretch b.stretch; shrink = a.shrink -ℤ b.shrink }
