-- What private calls write into a new node, and what it has then.
use Rattle.std.specs.Prelude.{◌≡◌, ℕ, List, [], ◌∷◌, true, Some, Result, Ok}
use Rattle.std.specs.FinMap as map
use Rattle.ntx_num.specs.Answer.{result_and_then}
use Rattle.ntx_nodes.specs.Fields.{field_of, with_field, kind_of}
use Rattle.ntx_nodes.specs.Heap.{Heap, is_live}
use Rattle.ntx_nodes.specs.Steps.{new_node, put_fields}
use Rattle.ntx_nodes.specs.declared.contents.BoxFields.{BoxFields}
use Rattle.ntx_nodes.specs.declared.field.Field.{Field}
use Rattle.ntx_nodes.specs.declared.field.FieldValue.TheVariants.{Link}
use Rattle.ntx_nodes.specs.declared.fields.Contents.{Contents}
use Rattle.ntx_nodes.specs.declared.fields.Contents.TheVariants as contents
use Rattle.ntx_nodes.specs.declared.fields.Fields.{Fields}
use Rattle.ntx_nodes.specs.declared.node.Node.{Node}
use Rattle.ntx_nodes.specs.declared.trouble.Trouble.{Trouble}

-- the fields with what these hold in others
abbrev pub copied : Fields → Fields → List Field → Result Fields Trouble
copied fields from [] = Ok fields
copied fields from (f ∷ fs) = result_and_then (field_of from f) (λ v. result_and_then (with_field fields f v) (λ more. copied more from fs))

-- links lead to live nodes
abbrev pub AreLinkable : Heap → Fields → Type 0
AreLinkable heap fields = (f : Field) (m : ℕ) → field_of fields f ≡ Ok (Link (Some m)) → is_live heap m ≡ true

-- A live node gets what these fields hold in others, where it takes that.
abbrev pub CopiesFields : Heap → Heap → ℕ → Fields → List Field → Type 0
CopiesFields old new n from fs = (node : Node) (fields : Fields) → map.get old.nodes n ≡ Some node → copied node.fields from fs ≡ Ok fields → AreLinkable old from → new ≡ put_fields old n node fields

-- the contents of a box with the glue of another
abbrev pub with_glue_of : Contents → BoxFields → Contents
with_glue_of (contents.Hlist a) b = contents.Hlist (record a { glue_sign = b.glue_sign; glue_order = b.glue_order; glue_num = b.glue_num; glue_den = b.glue_den })
with_glue_of (contents.Vlist a) b = contents.Vlist (record a { glue_sign = b.glue_sign; glue_order = b.glue_order; glue_num = b.glue_num; glue_den = b.glue_den })
with_glue_of c b = c

-- a box gets the glue of another; nothing else changes
abbrev pub CopiesGlue : Heap → Heap → ℕ → BoxFields → Type 0
CopiesGlue old new n b = (node : Node) → map.get old.nodes n ≡ Some node → new ≡ put_fields old n node (record node.fields { contents = with_glue_of node.fields.contents b })

-- a new node of this kind and subtype stands under this name
abbrev pub IsFresh : Heap → ℕ → Fields → Type 0
IsFresh heap n fields = map.get heap.nodes n ≡ Some (new_node (kind_of fields.contents) fields.subtype)

-- the node has these fields then
abbrev pub Fills : Heap → Heap → ℕ → Fields → Type 0
Fills old new n fields = new ≡ put_fields old n (new_node (kind_of fields.contents) fields.subtype) fields
