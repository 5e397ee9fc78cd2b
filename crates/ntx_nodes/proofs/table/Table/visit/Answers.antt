use Rattle.std.proofs.Common.{ap}
use Rattle.ntx_nodes.proofs.Tables.{node_marked, counted_marked}
use Rattle.ntx_nodes.proofs.table.Table.visit.Goals as goal

pub invariant_of-self : goal.invariant_of-self
invariant_of-self c = counted_marked c.self.inside.walk c.self.inside.slots.entries c.mark.new.slots.entries c.args.n c.mark.result c.self.invariant c.mark.ensures.live c.mark.ensures.dead

pub returns : goal.returns
returns c = let both = node_marked c.self.inside.walk c.self.inside.slots.entries c.mark.new.slots.entries c.args.self.now.nodes c.args.self.now.visited c.args.n c.mark.result (ap (λ k. k.nodes) c.self.view_is) (ap (λ k. k.visited) c.self.view_is) c.mark.ensures.live c.mark.ensures.dead in record { step = both.0; nodes = both.1 }
