-- proofs/view/bare_items_of/Invariants.antt
-- The items of the nodes so far.
use Rattle.std.proofs.Common.{◌≡◌, ◌≤◌, length, map, take}
use Rattle.std.specs.List.{All}
use Rattle.ntx_view.specs.Bounds.{IsBoundedBy}
use Rattle.ntx_view.specs.View.{nodes_named, bare_item}
use Rattle.ntx_view.proofs.view.bare_items_of.Given as goal

abbrev pub invariant-loop-n : goal.invariant-loop-n
invariant-loop-n g l = record {
  items : l.items.items ≡ map (bare_item l.fonts) (nodes_named (g.N.Nodes.heap l.nodes) (take l.n-index l.names));
  bounded : All (IsBoundedBy 1) l.items.items;
  few : length l.items.items ≤ l.n-index;
}
