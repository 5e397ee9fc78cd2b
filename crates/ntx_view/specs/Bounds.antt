-- How large the sizes of a list are: TeX's dimensions, added over its nodes.
--     list_length heap to     how many nodes a list has
--     weight_at heap n        from how many nodes an item is measured: its own, and of a discretionary those of its parts
--     IsBoundedBy weight item an item in range, no wider than as many nodes can make it, that reaches no farther than `max_reach`
--     AreBoundedBy            items that are together no larger than the nodes of these names can make them
use Rattle.std.specs.Prelude.{ℕ, ◌+◌, ◌*◌, ◌≤◌, List, length, Option, None, Some, All, sum_by}
use Rattle.std.specs.FinMap as fin
use Rattle.ntx_num.specs.Dimension.{max_dimension}
use Rattle.ntx_nodes.specs.Heap.{Heap}
use Rattle.ntx_nodes.specs.Walk.{flat_walk}
use Rattle.ntx_nodes.specs.declared.fields.Contents.{Contents}
use Rattle.ntx_nodes.specs.declared.fields.Contents.TheVariants as contents
use Rattle.ntx_nodes.specs.declared.node.Node.{Node}
use Rattle.ntx_item.specs.declared.item.Item.{Item}
use Rattle.ntx_item.specs.Items.{absolute_width, absolute_stretch, absolute_shrink, IsItemInRange}
use Rattle.ntx_view.specs.Natural.{IsReaching}
use Rattle.ntx_view.specs.View.{names_in}

abbrev pub list_length : Heap → Option ℕ → ℕ
list_length heap to = length (names_in (flat_walk heap to))

abbrev pub parts_weight : Heap → Contents → ℕ
parts_weight heap (contents.Disc d) = list_length heap d.pre + list_length heap d.post + list_length heap d.replace
parts_weight heap _ = 0

abbrev pub node_weight : Heap → Option Node → ℕ
node_weight heap None = 0
node_weight heap (Some node) = 1 + parts_weight heap node.fields.contents

abbrev pub weight_at : Heap → ℕ → ℕ
weight_at heap n = node_weight heap (fin.get heap.nodes n)

pub record IsBoundedBy (weight : ℕ) (item : Item) : Type 0 where
  pub in_range : IsItemInRange item
  pub width : absolute_width item ≤ weight * max_dimension
  pub stretch : absolute_stretch item ≤ max_dimension
  pub shrink : absolute_shrink item ≤ max_dimension
  pub reaching : IsReaching item

pub record AreBoundedBy (heap : Heap) (names : List ℕ) (items : List Item) : Type 0 where
  pub count : length items ≤ length names
  pub each : All IsItemInRange items
  pub widths : sum_by absolute_width items ≤ sum_by (weight_at heap) names * max_dimension
  pub stretches : sum_by absolute_stretch items ≤ length names * max_dimension
  pub shrinks : sum_by absolute_shrink items ≤ length names * max_dimension
  pub reaching : All IsReaching items
