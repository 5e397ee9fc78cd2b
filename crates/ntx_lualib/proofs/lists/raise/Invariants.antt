use Rattle.std.proofs.Common.{◌≡◌, ◌≤◌, ◌-◌}
use Rattle.ntx_values.specs.State.{Grows, table_of}
use Rattle.ntx_lualib.specs.Lists.{refilled, with_table}
use Rattle.ntx_lualib.specs.inner.Moves.{raised}
use Rattle.ntx_lualib.proofs.lists.raise.Given as goal

abbrev pub invariant-loop-k : goal.invariant-loop-k
invariant-loop-k l =
    record {
      low : l.p ≤ l.k;
      high : l.k ≤ l.m;
      moved : l.store ≡ with_table l.fn.store l.table (refilled (raised (table_of l.fn.store l.table) l.k l.m) (table_of l.fn.store l.table));
      grows : Grows l.fn.store l.store;
    }

abbrev pub decreases-loop-k : goal.decreases-loop-k
decreases-loop-k l = l.k - l.p
