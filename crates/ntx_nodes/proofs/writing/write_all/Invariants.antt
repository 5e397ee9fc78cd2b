use Rattle.std.proofs.Common.{◌≡◌, ◌≤◌, drop}
use Rattle.ntx_nodes.specs.declared.kind.Kind.{Kind}
use Rattle.ntx_nodes.specs.Writing.{write_step}
use Rattle.ntx_nodes.proofs.writing.write_all.Given as goal

abbrev pub invariant-loop-f : goal.invariant-loop-f
invariant-loop-f g l =
    let heap = g.N.Nodes.heap in
    let spare = g.N.Nodes.spare_of in
    record {
      left : write_step l.n (drop l.f-index l.values) (heap l.nodes) ≡ write_step l.n l.values (heap l.fn.nodes);
      visits : g.N.Nodes.visited l.nodes ≡ g.N.Nodes.visited l.fn.nodes;
      keeps : (each : Kind) → spare l.fn.nodes each ≤ spare l.nodes each;
    }
