use Rattle.std.specs.FinMap as map
use Rattle.ntx_nodes.specs.Heap.{IsLawful}
use Rattle.ntx_lists.specs.Copying.{HasFreed}
use Rattle.ntx_lists.proofs.copy.free_run.Given as goal

abbrev pub invariant-loop-nodes : goal.invariant-loop-nodes
invariant-loop-nodes g l =
    let heap = g.N.Nodes.heap in
    record {
      freed : HasFreed (heap l.fn.nodes) (heap l.nodes) l.fn.first l.n;
      lawful : IsLawful (heap l.nodes);
    }

abbrev pub decreases-loop-nodes : goal.decreases-loop-nodes
decreases-loop-nodes g l = map.len (g.N.Nodes.heap l.nodes).nodes
