use Rattle.std.proofs.Common.{◌≡◌, ◌+◌, ◌≤◌}
use Rattle.ntx_num.specs.Dimension.{max_nodes}
use Rattle.ntx_nodes.specs.Walker.{unvisited}
use Rattle.ntx_lists.proofs.Along.{Goes}
use Rattle.ntx_lists.proofs.survey.go_along.Given as goal

abbrev pub invariant-loop-at : goal.invariant-loop-at
invariant-loop-at g l =
    let heap = g.N.Nodes.heap in
    let visited = g.N.Nodes.visited in
    record {
      same : heap l.nodes ≡ heap l.fn.nodes;
      goes : Goes (heap l.fn.nodes) l.fn.head l.fn.cur (visited l.fn.nodes) l.at (visited l.nodes) l.seen;
      few : l.seen.length + unvisited (heap l.fn.nodes) (visited l.nodes) ≤ max_nodes;
    }

abbrev pub decreases-loop-at : goal.decreases-loop-at
decreases-loop-at g l = unvisited (g.N.Nodes.heap l.nodes) (g.N.Nodes.visited l.nodes)
