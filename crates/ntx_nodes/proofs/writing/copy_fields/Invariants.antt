use Rattle.std.proofs.Common.{◌≡◌, ◌≤◌, drop}
use Rattle.ntx_nodes.specs.Heap.{Heap}
use Rattle.ntx_nodes.specs.inner.Fills.{CopiesFields}
use Rattle.ntx_nodes.specs.declared.kind.Kind.{Kind}
use Rattle.ntx_nodes.proofs.writing.copy_fields.Given as goal

abbrev pub invariant-loop-f : goal.invariant-loop-f
invariant-loop-f g l =
    let heap = g.N.Nodes.heap in
    let spare = g.N.Nodes.spare_of in
    record {
      left : (final : Heap) → CopiesFields (heap l.nodes) final l.n l.from (drop l.f-index l.fields) → CopiesFields (heap l.fn.nodes) final l.n l.from l.fields;
      visits : g.N.Nodes.visited l.nodes ≡ g.N.Nodes.visited l.fn.nodes;
      keeps : (each : Kind) → spare l.fn.nodes each ≤ spare l.nodes each;
    }
