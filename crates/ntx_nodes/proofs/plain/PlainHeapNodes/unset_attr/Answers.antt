use Rattle.std.proofs.Common.{to_z, of_z, w64}
use Rattle.ntx_nodes.specs.Heap.{Heap}
use Rattle.ntx_nodes.proofs.StepLaws.{unset_attr-kept}
use Rattle.ntx_nodes.proofs.plain.PlainHeapNodes.unset_attr.Goals as goal

pub invariant_of-self : goal.invariant_of-self
invariant_of-self c =
    let heap : Heap = record { next = c.self.inside.next; nodes = c.self.inside.table.nodes; current = c.self.inside.current } in
    unset_attr-kept heap c.args.n (to_z w64 (of_z w64 c.args.id)) c.unset_attribute.new.self.nodes c.unset_attribute.result c.self.invariant c.unset_attribute.ensures.nodes
