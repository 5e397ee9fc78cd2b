use Rattle.ntx_ligkern.specs.Ligaturing.{InList, from_spot, first_chores}
use Rattle.ntx_ligkern.specs.inner.Cursors.{spot_from}
use Rattle.ntx_ligkern.specs.inner.Chores.{RunsOn, left_from}
use Rattle.ntx_ligkern.proofs.ligature_pass.ligature_list.Given as goal

abbrev pub invariant-loop-at : goal.invariant-loop-at
invariant-loop-at g l =
    let heap = g.N.Nodes.heap in
    RunsOn l.fonts l.fn.head (first_chores l.fn.head (heap l.fn.nodes)) (heap l.fn.nodes) l.head (from_spot InList (spot_from l.ahead.items l.at)) (heap l.nodes)

abbrev pub decreases-loop-at : goal.decreases-loop-at
decreases-loop-at g l = left_from (g.N.Nodes.heap l.nodes) (spot_from l.ahead.items l.at)
