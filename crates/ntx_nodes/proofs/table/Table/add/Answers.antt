use Rattle.std.proofs.Common.{ap}
use Rattle.ntx_nodes.proofs.Tables.{node_added}
use Rattle.ntx_nodes.proofs.table.Table.add.Goals as goal

pub returns : goal.returns
returns c = let both = node_added c.self.inside.walk c.self.inside.slots.entries c.insert.new.self.entries c.args.self.now.nodes c.args.self.now.visited c.args.n c.args.node c.self.invariant (ap (λ k. k.nodes) c.self.view_is) (ap (λ k. k.visited) c.self.view_is) c.requires c.in_ok-insert.ensures.updates.0 in record { ok = both.0; err = tt; visited = both.1 }
