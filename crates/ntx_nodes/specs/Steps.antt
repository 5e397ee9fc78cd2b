-- What each call on a heap of nodes does: from the heap and its arguments to its answer and the new heap, or to its refusal
-- (LuaTeX Reference Manual, chapter "Nodes"). What a step does not name stays as it is.
use Rattle.std.specs.Prelude.{ℕ, ◌+◌, ℤ, nat_le, ◌&&◌, not, if◌then◌else◌, Option, None, Some, Result, Ok, Err, Bool}
use Rattle.std.specs.FinMap as map
use Rattle.std.specs.FinSet as set
use Rattle.ntx_num.specs.Answer.{result_map, result_and_then}
use Rattle.ntx_nodes.specs.Fields.{field_of, with_field, kind_of, fresh, unlinked}
use Rattle.ntx_num.specs.Dimension.{max_nodes}
use Rattle.ntx_nodes.specs.Heap.{Attributes, Heap, Names, name_limit, max_attributes, is_attribute}
use Rattle.ntx_nodes.specs.declared.kind.Kind.{Kind}
use Rattle.ntx_nodes.specs.declared.field.Field.{Field}
use Rattle.ntx_nodes.specs.declared.field.FieldValue.{FieldValue}
use Rattle.ntx_nodes.specs.declared.field.FieldValue.TheVariants.{Number, Link}
use Rattle.ntx_nodes.specs.declared.contents.BoxFields.{BoxFields}
use Rattle.ntx_nodes.specs.declared.fields.Fields.{Fields}
use Rattle.ntx_nodes.specs.declared.node.Node.{Node}
use Rattle.ntx_nodes.specs.declared.fields.Contents.{Contents}
use Rattle.ntx_nodes.specs.declared.fields.Contents.TheVariants as contents
use Rattle.ntx_nodes.specs.declared.ratio.Ratio.{Ratio}
use Rattle.ntx_nodes.specs.declared.trouble.Trouble.{Trouble}
use Rattle.ntx_nodes.specs.declared.trouble.Trouble.TheVariants.{Stale, WrongKind, BadValue, NodesFull, NamesOut, AttrFull}

-- a heap with no node, whose next name is given
abbrev pub empty_heap : ℕ → Heap
empty_heap first = record { next = first; nodes = map.empty; current = map.empty }

-- What f makes of the node of this name, which has to be live.
abbrev pub of_found : {A : Type 0} → ℕ → (Node → Result A Trouble) → Option Node → Result A Trouble
of_found n f None = Err (Stale n)
of_found n f (Some node) = f node

abbrev pub at : {A : Type 0} → Heap → ℕ → (Node → Result A Trouble) → Result A Trouble
at heap n f = of_found n f (map.get heap.nodes n)

-- the heap with this node under this name
abbrev pub put : Heap → ℕ → Node → Heap
put heap n node = record heap { nodes = map.insert heap.nodes n node }

-- The name that a making takes, or why there is none.
abbrev pub next_name : Heap → Result ℕ Trouble
next_name heap =
    if nat_le max_nodes (map.len heap.nodes) then Err NodesFull
    else if nat_le name_limit heap.next then Err NamesOut
    else Ok heap.next

-- A made node takes the next name. No name is given twice, since the next name never falls.
abbrev pub making : Node → Heap → Result (ℕ × Heap) Trouble
making node heap = result_map (λ n. (n, record { next = n + 1; nodes = map.insert heap.nodes n node; current = heap.current })) (next_name heap)

-- a new node
abbrev pub new_node : Kind → ℕ → Node
new_node kind subtype = record { fields = record { subtype = subtype; next = None; contents = fresh kind }; attributes = map.empty }

abbrev pub make_step : Kind → ℕ → Heap → Result (ℕ × Heap) Trouble
make_step kind subtype heap = making (new_node kind subtype) heap

-- a copy of a node
abbrev pub copy_of : Node → Node
copy_of node = record { fields = record { subtype = node.fields.subtype; next = None; contents = unlinked node.fields.contents }; attributes = node.attributes }

abbrev pub copy_one_step : ℕ → Heap → Result (ℕ × Heap) Trouble
copy_one_step n heap = at heap n (λ node. making (copy_of node) heap)

abbrev pub free_one_step : ℕ → Heap → Result (Unit {0} × Heap) Trouble
free_one_step n heap = at heap n (λ _. Ok (tt, record heap { nodes = map.remove heap.nodes n }))

-- the kind and subtype of a node
abbrev pub kind_answer : ℕ → Heap → Result (Kind × ℕ) Trouble
kind_answer n heap = at heap n (λ node. Ok (kind_of node.fields.contents, node.fields.subtype))

-- all the fields of a node
abbrev pub fields_answer : ℕ → Heap → Result Fields Trouble
fields_answer n heap = at heap n (λ node. Ok node.fields)

abbrev pub get_answer : ℕ → Field → Heap → Result FieldValue Trouble
get_answer n f heap = at heap n (λ node. field_of node.fields f)

-- a link that is set has to name a live node
abbrev pub linkable : Heap → FieldValue → Result (Unit {0}) Trouble
linkable heap (Number x) = Ok tt
linkable heap (Link None) = Ok tt
linkable heap (Link (Some m)) = at heap m (λ _. Ok tt)

-- the heap with these fields at a node
abbrev pub put_fields : Heap → ℕ → Node → Fields → Heap
put_fields heap n node fields = put heap n (record node { fields = fields })

-- the fields with the value in one of them, where it takes the value and what that links to is live
abbrev pub changed : Heap → Fields → Field → FieldValue → Result Fields Trouble
changed heap fields f v = result_and_then (with_field fields f v) (λ written. result_map (λ _. written) (linkable heap v))

abbrev pub set_step : ℕ → Field → FieldValue → Heap → Result (Unit {0} × Heap) Trouble
set_step n f v heap = at heap n (λ node. result_map (λ fields. (tt, put_fields heap n node fields)) (changed heap node.fields f v))

-- a box with its glue set
abbrev pub with_glue_set : BoxFields → ℕ → ℕ → Ratio → BoxFields
with_glue_set b sign order r = record b { glue_sign = sign; glue_order = order; glue_num = r.num; glue_den = r.den }

-- the contents with the glue set, where they are a box's; else WrongKind of n
abbrev pub contents_with_ratio : ℕ → ℕ → ℕ → Ratio → Contents → Result Contents Trouble
contents_with_ratio n sign order r (contents.Hlist b) = Ok (contents.Hlist (with_glue_set b sign order r))
contents_with_ratio n sign order r (contents.Vlist b) = Ok (contents.Vlist (with_glue_set b sign order r))
contents_with_ratio n sign order r _ = Err (WrongKind n)

abbrev pub with_ratio : ℕ → ℕ → ℕ → Ratio → Fields → Result Fields Trouble
with_ratio n sign order r fields = result_map (λ c. record fields { contents = c }) (contents_with_ratio n sign order r fields.contents)

abbrev pub set_ratio_step : ℕ → ℕ → ℕ → Ratio → Heap → Result (Unit {0} × Heap) Trouble
set_ratio_step n sign order r heap =
    at heap n (λ node. result_map (λ fields. (tt, put_fields heap n node fields)) (with_ratio n sign order r node.fields))

abbrev pub attr_answer : ℕ → ℤ → Heap → Result (Option ℤ) Trouble
attr_answer n id heap = at heap n (λ node. Ok (map.get node.attributes id))

-- the attributes with this one
abbrev pub with_attribute : Attributes → ℤ → ℤ → Result Attributes Trouble
with_attribute attributes id v =
    if not (is_attribute id v) then Err BadValue
    else if not (map.contains_key attributes id) && nat_le max_attributes (map.len attributes) then Err AttrFull
    else Ok (map.insert attributes id v)

-- the heap with these attributes at a node
abbrev pub put_attributes : Heap → ℕ → Node → Attributes → Heap
put_attributes heap n node attributes = put heap n (record node { attributes = attributes })

abbrev pub set_attr_step : ℕ → ℤ → ℤ → Heap → Result (Unit {0} × Heap) Trouble
set_attr_step n id v heap = at heap n (λ node. result_map (λ a. (tt, put_attributes heap n node a)) (with_attribute node.attributes id v))

abbrev pub unset_attr_step : ℕ → ℤ → Heap → Result (Unit {0} × Heap) Trouble
unset_attr_step n id heap = at heap n (λ node. Ok (tt, put_attributes heap n node (map.remove node.attributes id)))

abbrev pub same_attrs_step : ℕ → ℕ → Heap → Result (Unit {0} × Heap) Trouble
same_attrs_step n from heap = at heap n (λ node. at heap from (λ other. Ok (tt, put_attributes heap n node other.attributes)))

abbrev pub set_current_step : ℤ → ℤ → Heap → Result (Unit {0} × Heap) Trouble
set_current_step id v heap = result_map (λ a. (tt, record heap { current = a })) (with_attribute heap.current id v)

abbrev pub unset_current_step : ℤ → Heap → Result (Unit {0} × Heap) Trouble
unset_current_step id heap = Ok (tt, record heap { current = map.remove heap.current id })

abbrev pub wear_current_step : ℕ → Heap → Result (Unit {0} × Heap) Trouble
wear_current_step n heap = at heap n (λ node. Ok (tt, put_attributes heap n node heap.current))

-- A visit: whether it is the first since the walk began, and the names visited then.
abbrev pub visit_step : ℕ → Heap → Names → Result (Bool × Names) Trouble
visit_step n heap visited = at heap n (λ _. Ok (not (set.contains visited n), set.insert visited n))
