use Rattle.std.proofs.Common.{◌≡◌, ◌+◌, ◌≤◌, ◌-◌}
use Rattle.ntx_nodes.specs.Walk.{max_depth}
use Rattle.ntx_lists.proofs.Linking.{LinksOn}
use Rattle.ntx_lists.proofs.copy.+link_list.Given as goal

abbrev pub decreases-link_list : goal.decreases-link_list
decreases-link_list g l = (max_depth + 2) - l.depth

abbrev pub invariant-loop-at : goal.invariant-loop-at
invariant-loop-at g l =
    let heap = g.N.Nodes.heap in
    record {
      links : LinksOn (heap l.fn.nodes) (heap l.nodes) l.fn.head l.at l.depth l.fn.first l.copy;
      further : l.fn.first ≤ l.copy;
      names : (heap l.nodes).next ≡ (heap l.fn.nodes).next;
    }

abbrev pub decreases-loop-at : goal.decreases-loop-at
decreases-loop-at g l = (g.N.Nodes.heap l.nodes).next - l.copy
