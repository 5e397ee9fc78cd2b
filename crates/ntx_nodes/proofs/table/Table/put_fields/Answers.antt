use Rattle.std.proofs.Common.{ap}
use Rattle.ntx_nodes.specs.declared.node.Node.{Node}
use Rattle.ntx_nodes.specs.declared.table.Slot.{Slot}
use Rattle.ntx_nodes.proofs.Tables.{node_changed, counted_changed}
use Rattle.ntx_nodes.proofs.table.Table.put_fields.Goals as goal

pub invariant_of-self : goal.invariant_of-self
invariant_of-self c = counted_changed c.self.inside.walk c.self.inside.slots.entries c.write_fields.new.slots.entries c.args.n (λ (slot : Slot). record { fields = c.args.fields; attributes = slot.node.attributes }) c.self.invariant c.write_fields.ensures.live c.write_fields.ensures.dead

pub returns : goal.returns
returns c = let both = node_changed c.self.inside.walk c.self.inside.slots.entries c.write_fields.new.slots.entries c.args.self.now.nodes c.args.self.now.visited c.args.n (λ (node : Node). record { fields = c.args.fields; attributes = node.attributes }) (ap (λ k. k.nodes) c.self.view_is) (ap (λ k. k.visited) c.self.view_is) c.write_fields.ensures.live c.write_fields.ensures.dead in record { nodes = both.0; absent = both.1; visited = both.2 }
