use Rattle.std.proofs.Common.{◌≡◌, ◌≤◌, ◌-◌}
use Rattle.ntx_values.specs.State.{Grows, table_of}
use Rattle.ntx_lualib.specs.Lists.{refilled, with_table}
use Rattle.ntx_lualib.specs.inner.Moves.{lowered}
use Rattle.ntx_lualib.proofs.lists.lower.Given as goal

abbrev pub invariant-loop-k : goal.invariant-loop-k
invariant-loop-k l =
    record {
      low : l.p ≤ l.k;
      high : l.k ≤ l.m;
      moved : l.store ≡ with_table l.fn.store l.table (refilled (lowered (table_of l.fn.store l.table) l.p l.k) (table_of l.fn.store l.table));
      grows : Grows l.fn.store l.store;
    }

abbrev pub decreases-loop-k : goal.decreases-loop-k
decreases-loop-k l = l.m - l.k
