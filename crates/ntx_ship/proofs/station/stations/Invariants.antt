-- Where the nodes so far stand.
use Rattle.std.proofs.Common.{◌≡◌, ℕ, ◌+◌, ◌^◌, pos, List, take, drop}
use Rattle.std.specs.List.{All}
use Rattle.ntx_tfm.specs.Font.{FontTables}
use Rattle.ntx_pack.specs.Output.{running}
use Rattle.ntx_ship.specs.Placed.{stations}
use Rattle.ntx_ship.specs.inner.Reach.{IsPlaced, StandsWithin, AreItemsOf}
use Rattle.ntx_ship.proofs.Rows.{stand_after}
use Rattle.ntx_ship.proofs.Reaches.{so_far}
use Rattle.ntx_ship.proofs.station.stations.Given as goal

abbrev pub invariant-loop-i : goal.invariant-loop-i
invariant-loop-i g l =
    let heap = g.N.Nodes.heap l.nodes in
    record {
      glue : l.setter.glue ≡ l.inside.glue;
      total : l.setter.total ≡ running l.inside.glue (take l.i l.items);
      near : (most : ℕ) → IsPlaced most l.fn.here → IsPlaced (most + so_far l.items l.i) l.at;
      within : (most : ℕ) → IsPlaced most l.fn.here → All (StandsWithin (most + 2 ^ 51)) l.all.items;
      whole : (fonts : List FontTables) → AreItemsOf heap fonts l.names l.items → stations heap fonts l.inside l.names (pos 0) l.fn.here ≡ stand_after l.all.items (stations heap fonts l.inside (drop l.i l.names) l.setter.total l.at);
    }
