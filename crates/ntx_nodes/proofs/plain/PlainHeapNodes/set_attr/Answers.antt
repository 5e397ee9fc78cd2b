use Rattle.std.proofs.Common.{to_z, of_z, w64}
use Rattle.ntx_nodes.specs.Heap.{Heap}
use Rattle.ntx_nodes.proofs.StepLaws.{set_attr-kept}
use Rattle.ntx_nodes.proofs.plain.PlainHeapNodes.set_attr.Goals as goal

pub invariant_of-self : goal.invariant_of-self
invariant_of-self c =
    let heap : Heap = record { next = c.self.inside.next; nodes = c.self.inside.table.nodes; current = c.self.inside.current } in
    set_attr-kept heap c.args.n (to_z w64 (of_z w64 c.args.id)) (to_z w64 (of_z w64 c.args.v)) c.set_attribute.new.self.nodes c.set_attribute.result c.self.invariant c.set_attribute.ensures.nodes
