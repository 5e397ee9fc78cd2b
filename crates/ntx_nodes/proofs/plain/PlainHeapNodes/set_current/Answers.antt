use Rattle.std.proofs.Common.{to_z, of_z, w64}
use Rattle.ntx_nodes.specs.Heap.{Heap}
use Rattle.ntx_nodes.proofs.StepLaws.{set_current-kept}
use Rattle.ntx_nodes.proofs.plain.PlainHeapNodes.set_current.Goals as goal

pub invariant_of-self : goal.invariant_of-self
invariant_of-self c =
    let heap : Heap = record { next = c.self.inside.next; nodes = c.self.inside.table.nodes; current = c.self.inside.current } in
    set_current-kept heap c.set.new.self (to_z w64 (of_z w64 c.args.id)) (to_z w64 (of_z w64 c.args.v)) c.set.result c.self.invariant c.set.ensures
