use Rattle.std.proofs.Common.{◌≡◌, map, length}
use Rattle.ntx_syntax.specs.Terminals as terminals
use Rattle.ntx_syntax.proofs.terminal.entry_of.Given as goal

abbrev pub invariant-loop-table : goal.invariant-loop-table
invariant-loop-table l =
    terminals.entry_of (map (λ entry. (entry.0.now, entry.1)) l.initial.table) l.spelled ≡ terminals.entry_of (map (λ entry. (entry.0.now, entry.1)) l.table) l.spelled

abbrev pub decreases-loop-table : goal.decreases-loop-table
decreases-loop-table l = length l.table
