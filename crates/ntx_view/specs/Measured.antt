-- Sizes within TeX's largest dimension.
--     IsMeasured item          a box, rule, glue or kern of which no width, height, depth or shift is beyond it; any other item
--     HeapsAreMeasured         so are the items of every heap
use Rattle.std.specs.Prelude.{◌≡◌, ◌≤◌, ℕ, List, Option, Ok, All}
use Rattle.ntx_num.specs.Dimension.{max_order, max_penalty, IsWithin, IsDimension}
use Rattle.ntx_nodes.specs.Heap.{Heap, IsLawful}
use Rattle.ntx_nodes.specs.declared.kind.ListKind.{ListKind}
use Rattle.ntx_nodes.specs.declared.fields.Contents.{Contents}
use Rattle.ntx_nodes.specs.declared.fields.Contents.TheVariants as contents
use Rattle.ntx_tfm.specs.Font.{FontTables, IsSized}
use Rattle.ntx_item.specs.declared.item.Item.{Item}
use Rattle.ntx_item.specs.declared.item.Item.TheVariants.{Box, Rule, Glue, Kern}
use Rattle.ntx_view.specs.View.{box_size, rule_size, items_answer}

-- of boxes, rules, glue and kerns; the other items may be of any size
abbrev pub IsMeasured : Item → Type 0
IsMeasured (Box size shift) = IsSized size × IsDimension shift
IsMeasured (Rule size) = IsSized size
IsMeasured (Glue spec) = IsDimension spec.width
IsMeasured (Kern w font) = IsDimension w
IsMeasured _ = Unit {0}

-- the numbers that a node is measured by are in their ranges
abbrev pub HasMeasures : Contents → Type 0
HasMeasures (contents.Hlist b) = IsSized (box_size b) × IsDimension b.shift
HasMeasures (contents.Vlist b) = IsSized (box_size b) × IsDimension b.shift
HasMeasures (contents.Rule r) = IsSized (rule_size r)
HasMeasures (contents.Glue g) = IsDimension g.width × IsDimension g.stretch × (g.stretch_order ≤ max_order) × IsDimension g.shrink × (g.shrink_order ≤ max_order)
HasMeasures (contents.Kern w) = IsDimension w
HasMeasures (contents.Penalty p) = IsWithin max_penalty p
HasMeasures _ = Unit {0}

abbrev pub HeapsAreMeasured : Type 0
HeapsAreMeasured = (heap : Heap) (fonts : List FontTables) (head : Option ℕ) (k : ListKind) (items : List Item) → IsLawful heap → items_answer heap fonts head k ≡ Ok items → All IsMeasured items
