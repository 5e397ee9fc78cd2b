use Rattle.std.proofs.Common.{◌+◌, ◌≤◌, ◌-◌}
use Rattle.std.specs.FinMap as map
use Rattle.ntx_nodes.specs.Walk.{max_depth}
use Rattle.ntx_lists.proofs.Trees.{FreesOn}
use Rattle.ntx_lists.proofs.free.+free_list.Given as goal

abbrev pub decreases-free_list : goal.decreases-free_list
decreases-free_list g l = (max_depth + 2) - l.depth

abbrev pub invariant-loop-at : goal.invariant-loop-at
invariant-loop-at g l =
    let heap = g.N.Nodes.heap in
    record {
      frees : FreesOn (heap l.fn.nodes) (heap l.nodes) l.fn.head l.at l.depth;
      fewer : map.len (heap l.nodes).nodes ≤ map.len (heap l.fn.nodes).nodes;
    }

abbrev pub decreases-loop-at : goal.decreases-loop-at
decreases-loop-at g l = map.len (g.N.Nodes.heap l.nodes).nodes
