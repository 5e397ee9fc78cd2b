-- What holds while the nodes of a list are placed.
use Rattle.std.proofs.Common.{◌≡◌, ◌+◌, ◌-◌, ◌*◌}
use Rattle.ntx_ship.specs.Placed.{row_pieces, list_pieces}
use Rattle.ntx_ship.specs.inner.Adding.{after}
use Rattle.ntx_ship.proofs.Adds.{row_from}
use Rattle.ntx_ship.proofs.placing.+placing.Given as goal

abbrev pub decreases-place_list : goal.decreases-place_list
decreases-place_list g l = 4 * l.levels

abbrev pub decreases-place_row : goal.decreases-place_row
decreases-place_row g l = 4 * l.levels - 1

abbrev pub decreases-place_node : goal.decreases-place_node
decreases-place_node g l = 4 * l.levels - 2

abbrev pub decreases-place_box : goal.decreases-place_box
decreases-place_box g l = 4 * l.levels + 1

abbrev pub invariant-place_row-loop-station : goal.invariant-place_row-loop-station
invariant-place_row-loop-station g l =
    let heap = g.N.Nodes.heap in
    let place = list_pieces (heap l.fn.nodes) l.fonts (l.levels - 1) in
    record {
      same : heap l.nodes ≡ heap l.fn.nodes;
      whole : after l.fn.pieces.items (row_pieces l.fonts place l.direction l.row) ≡ after l.pieces.items (row_from l.fonts place l.direction l.row l.station-index);
    }
