use Rattle.std.proofs.Common.{Ok, ap}
use Rattle.std.proofs.lemmas.Int.{to_z-of_z}
use Rattle.std.specs.FinMap as map
use Rattle.ntx_nodes.specs.Heap.{Attributes}
use Rattle.ntx_nodes.proofs.Tables.{attributes_changed, counted_attributes}
use Rattle.ntx_nodes.proofs.table.Table.unset_attribute.Goals as goal

pub invariant_of-self : goal.invariant_of-self
invariant_of-self c =
    let live = rw (to_z-of_z _ c.args.id c.ranges.id) at c.unset_attribute.ensures.live in
    counted_attributes c.self.inside.walk c.self.inside.slots.entries c.unset_attribute.new.slots.entries c.args.n c.unset_attribute.result (λ (a : Attributes). Ok (map.remove a c.args.id)) c.self.invariant live c.unset_attribute.ensures.dead

pub returns : goal.returns
returns c =
    let live = rw (to_z-of_z _ c.args.id c.ranges.id) at c.unset_attribute.ensures.live in
    let both = attributes_changed c.self.inside.walk c.self.inside.slots.entries c.unset_attribute.new.slots.entries c.args.self.now.nodes c.args.self.now.visited c.args.n c.unset_attribute.result (λ (a : Attributes). Ok (map.remove a c.args.id)) (ap (λ k. k.nodes) c.self.view_is) (ap (λ k. k.visited) c.self.view_is) live c.unset_attribute.ensures.dead in record { nodes = both.0; visited = both.1 }
