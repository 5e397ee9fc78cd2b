use Rattle.std.proofs.Common.{◌≡◌, ℕ, true, subst}
use Rattle.std.specs.Prelude.{is_some}
use Rattle.std.specs.FinMap as map
use Rattle.std.specs.FinSet as set
use Rattle.ntx_nodes.specs.Table.{MarkedNodes}
use Rattle.ntx_nodes.proofs.Tables.{visited_live}
use Rattle.ntx_nodes.proofs.table.Table.lawful.Goals as goal

pub returns : goal.returns
returns c = subst (λ (k : MarkedNodes). (n : ℕ) → set.contains k.visited n ≡ true → is_some (map.get k.nodes n) ≡ true) c.self.view_is (visited_live c.self.inside.walk c.self.inside.slots.entries)
