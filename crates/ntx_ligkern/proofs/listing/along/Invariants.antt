use Rattle.std.proofs.Common.{◌≡◌, ◌++◌}
use Rattle.ntx_ligkern.specs.Along.{first_along, along}
use Rattle.ntx_ligkern.proofs.listing.along.Given as goal

abbrev pub invariant-loop-most : goal.invariant-loop-most
invariant-loop-most g l =
    let heap = g.N.Nodes.heap l.nodes in
    l.names.items ++ first_along heap l.most l.at ≡ along heap l.fn.to

abbrev pub decreases-loop-most : goal.decreases-loop-most
decreases-loop-most g l = l.most
