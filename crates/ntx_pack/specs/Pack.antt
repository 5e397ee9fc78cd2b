-- Packing a list into a box, as a step of a heap ("TeX: The Program", sections 644 to 679).
--     hpack_step fonts head to     an hlist made over the list at a head, and its badness
--     vpack_step fonts head to     a vlist
--     dimensions_answer            the natural size of a list as an hlist
-- A list is refused with Dimension where its natural width, height or depth, or the size that its box is to have, is beyond TeX's largest dimension
-- in absolute value.
use Rattle.std.specs.Prelude.{ℕ, ℤ, pos, ◌+ℤ◌, ◌-ℤ◌, ◌&&◌, if◌then◌else◌, List, Option, None, Result, Ok, Err}
use Rattle.std.specs.FinMap as map
use Rattle.ntx_num.specs.Answer.{result_map, result_and_then}
use Rattle.ntx_num.specs.Dimension.{is_dimension}
use Rattle.ntx_num.specs.declared.size.Size.{Size}
use Rattle.ntx_nodes.specs.Heap.{Heap}
use Rattle.ntx_nodes.specs.Steps.{making}
use Rattle.ntx_nodes.specs.declared.kind.ListKind.{ListKind}
use Rattle.ntx_nodes.specs.declared.kind.ListKind.TheVariants.{H, V}
use Rattle.ntx_nodes.specs.declared.contents.BoxFields.{BoxFields}
use Rattle.ntx_nodes.specs.declared.fields.Contents.{Contents}
use Rattle.ntx_nodes.specs.declared.fields.Contents.TheVariants.{Hlist, Vlist}
use Rattle.ntx_nodes.specs.declared.fields.Fields.{Fields}
use Rattle.ntx_nodes.specs.declared.node.Node.{Node}
use Rattle.ntx_nodes.specs.declared.trouble.Trouble.{Trouble}
use Rattle.ntx_nodes.specs.declared.trouble.Trouble.TheVariants.{Dimension}
use Rattle.ntx_tfm.specs.Font.{FontTables}
use Rattle.ntx_item.specs.declared.item.Item.{Item}
use Rattle.ntx_item.specs.declared.pack_to.PackTo.{PackTo}
use Rattle.ntx_item.specs.declared.pack_to.PackTo.TheVariants.{Exactly, Additional}
use Rattle.ntx_view.specs.Natural.{hlist_size}
use Rattle.ntx_view.specs.View.{items_answer}
use Rattle.ntx_pack.specs.declared.direction.Direction.{Direction}
use Rattle.ntx_pack.specs.declared.direction.Direction.TheVariants.{Horizontal, Vertical}
use Rattle.ntx_pack.specs.declared.packed.Packed.{Packed}
use Rattle.ntx_pack.specs.Vertical.{vlist_size}
use Rattle.ntx_pack.specs.GlueSet.{glue_set, badness_for}

-- ---- sizes

-- this size, if no part of it is too great
abbrev pub checked_size : Size → Result Size Trouble
checked_size size = if (is_dimension size.w && is_dimension size.h) && is_dimension size.d then Ok size else Err Dimension

abbrev pub natural_size : Direction → List Item → Size
natural_size Horizontal items = hlist_size items
natural_size Vertical items = vlist_size items

-- the size in the direction of the list
abbrev pub along : Direction → Size → ℤ
along Horizontal size = size.w
along Vertical size = size.h

abbrev pub with_along : Direction → ℤ → Size → Size
with_along Horizontal x size = record size { w = x }
with_along Vertical x size = record size { h = x }

-- the size that a box is to have there
abbrev pub target_size : PackTo → ℤ → ℤ
target_size (Exactly size) natural = size
target_size (Additional more) natural = natural +ℤ more

-- ---- boxes

-- Items packed into a box of this size, where their natural size is this.
abbrev pub packed_into : Direction → List Item → Size → Size → Packed
packed_into direction items natural size =
    let shortfall = along direction size -ℤ along direction natural in
    record { size = size; glue = glue_set items shortfall; badness = pos (badness_for items shortfall) }

abbrev pub packed : Direction → PackTo → List Item → Result Packed Trouble
packed direction to items =
    result_and_then (checked_size (natural_size direction items)) (λ natural.
    result_map (packed_into direction items natural) (checked_size (with_along direction (target_size to (along direction natural)) natural)))

abbrev pub box_fields : Option ℕ → Packed → BoxFields
box_fields head box = record {
  width = box.size.w;
  height = box.size.h;
  depth = box.size.d;
  shift = pos 0;
  list = head;
  glue_sign = box.glue.sign;
  glue_order = box.glue.order;
  glue_num = box.glue.num;
  glue_den = box.glue.den;
}

abbrev pub box_contents : Direction → BoxFields → Contents
box_contents Horizontal b = Hlist b
box_contents Vertical b = Vlist b

-- a box of subtype 0 over a list, without attributes
abbrev pub node_fields : Direction → Option ℕ → Packed → Fields
node_fields direction head box = record { subtype = 0; next = None; contents = box_contents direction (box_fields head box) }

abbrev pub box_node : Direction → Option ℕ → Packed → Node
box_node direction head box = record { fields = node_fields direction head box; attributes = map.empty }

-- ---- steps

-- what a list in this direction may hold
abbrev pub list_kind : Direction → ListKind
list_kind Horizontal = H
list_kind Vertical = V

-- the items of the list, what they are packed into, and the making of that box
abbrev pub pack_step : Direction → List FontTables → Option ℕ → PackTo → Heap → Result ((ℕ × ℤ) × Heap) Trouble
pack_step direction fonts head to heap =
    result_and_then (items_answer heap fonts head (list_kind direction)) (λ items.
    result_and_then (packed direction to items) (λ box.
    result_map (λ made. ((made.0, box.badness), made.1)) (making (box_node direction head box) heap)))

abbrev pub hpack_step : List FontTables → Option ℕ → PackTo → Heap → Result ((ℕ × ℤ) × Heap) Trouble
hpack_step fonts head to heap = pack_step Horizontal fonts head to heap

abbrev pub vpack_step : List FontTables → Option ℕ → PackTo → Heap → Result ((ℕ × ℤ) × Heap) Trouble
vpack_step fonts head to heap = pack_step Vertical fonts head to heap

abbrev pub dimensions_answer : Heap → List FontTables → Option ℕ → Result Size Trouble
dimensions_answer heap fonts head = result_and_then (items_answer heap fonts head H) (λ items. checked_size (hlist_size items))
