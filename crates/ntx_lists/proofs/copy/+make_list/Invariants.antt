use Rattle.std.proofs.Common.{◌+◌, ◌≤◌, ◌-◌}
use Rattle.ntx_nodes.specs.Heap.{name_limit}
use Rattle.ntx_nodes.specs.Walk.{max_depth}
use Rattle.ntx_lists.proofs.Making.{MakesOn}
use Rattle.ntx_lists.proofs.copy.+make_list.Given as goal

abbrev pub decreases-make_list : goal.decreases-make_list
decreases-make_list g l = (max_depth + 2) - l.depth

abbrev pub invariant-loop-at : goal.invariant-loop-at
invariant-loop-at g l =
    let heap = g.N.Nodes.heap in
    record {
      makes : MakesOn (heap l.fn.nodes) (heap l.nodes) l.fn.head l.at l.depth;
      grows : (heap l.fn.nodes).next ≤ (heap l.nodes).next;
    }

abbrev pub decreases-loop-at : goal.decreases-loop-at
decreases-loop-at g l = (name_limit + 1) - (g.N.Nodes.heap l.nodes).next
