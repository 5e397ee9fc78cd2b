-- proofs/view/items_of/Invariants.antt
-- The items of the nodes so far.
use Rattle.std.proofs.Common.{◌≡◌, map, take}
use Rattle.ntx_view.specs.Bounds.{AreBoundedBy}
use Rattle.ntx_view.specs.View.{nodes_named, item_of}
use Rattle.ntx_view.proofs.view.items_of.Given as goal

abbrev pub invariant-loop-n : goal.invariant-loop-n
invariant-loop-n g l = record {
  same : g.N.Nodes.heap l.nodes ≡ g.N.Nodes.heap l.initial.nodes;
  items : l.items.items ≡ map (item_of (g.N.Nodes.heap l.initial.nodes) l.fonts) (nodes_named (g.N.Nodes.heap l.initial.nodes) (take l.n-index l.names));
  bounded : AreBoundedBy (g.N.Nodes.heap l.initial.nodes) (take l.n-index l.names) l.items.items;
}
