use Rattle.ntx_values.specs.Table.{border_of}
use Rattle.ntx_values.specs.State.{table_of}
use Rattle.ntx_lualib.specs.Lists.{element_text}
use Rattle.ntx_lualib.proofs.Joins.{IsJoined}
use Rattle.ntx_lualib.proofs.print.joined.Given as goal

abbrev pub invariant-loop-k : goal.invariant-loop-k
invariant-loop-k l = IsJoined (element_text l.store) (table_of l.store l.table) (border_of (table_of l.store l.table)) l.between l.line l.k
