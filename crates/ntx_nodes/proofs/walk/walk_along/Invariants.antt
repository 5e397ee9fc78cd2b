use Rattle.std.proofs.Common.{◌≡◌, None}
use Rattle.ntx_nodes.specs.Walker.{unvisited}
use Rattle.ntx_nodes.specs.declared.kind.Way.TheVariants.{Flat}
use Rattle.ntx_nodes.proofs.WalkSteps.{Gets}
use Rattle.ntx_nodes.proofs.walk.walk_along.Given as goal

abbrev pub invariant-loop-at : goal.invariant-loop-at
invariant-loop-at g l =
    let heap = g.N.Nodes.heap in
    let visited = g.N.Nodes.visited in
    record {
      same : heap l.nodes ≡ heap l.fn.nodes;
      gets : Gets (heap l.fn.nodes) Flat l.depth l.k l.fn.head (visited l.fn.nodes) l.fn.names l.at (visited l.nodes) l.names;
      uncollected : l.fn.names ≡ None → l.names ≡ None;
    }

abbrev pub decreases-loop-at : goal.decreases-loop-at
decreases-loop-at g l = unvisited (g.N.Nodes.heap l.nodes) (g.N.Nodes.visited l.nodes)
