-- A heap of nodes as a value (LuaTeX Reference Manual, chapter "Nodes").
--     Heap                 the next name, the live nodes by name, and the attributes that made nodes wear
--     IsLawful heap        what is true of every heap
use Rattle.std.specs.Prelude.{◌≡◌, ℕ, ◌-◌, ◌<◌, ◌≤◌, ◌^◌, ℤ, pos, neg_ℤ, int_le, Option, Some, Ok, Bool, true, ◌&&◌, is_some}
use Rattle.std.specs.Ordering.{nat_cmp, int_cmp}
use Rattle.std.specs.FinMap as map
use Rattle.std.specs.FinSet as set
use Rattle.ntx_num.specs.Dimension.{max_nodes}
use Rattle.ntx_nodes.specs.FieldTable.{held, IsHeld}
use Rattle.ntx_nodes.specs.Fields.{kind_of, field_of}
use Rattle.ntx_nodes.specs.declared.kind.Kind.{Kind}
use Rattle.ntx_nodes.specs.declared.field.Field.{Field}
use Rattle.ntx_nodes.specs.declared.field.FieldValue.TheVariants.{Number, Link}
use Rattle.ntx_nodes.specs.declared.node.Node.{Node}

-- attributes: from an id to its value
abbrev pub Attributes : Type 0
Attributes = map.FinMap int_cmp ℤ

pub record Heap : Type 0 where
  pub next : ℕ
  pub nodes : map.FinMap nat_cmp Node
  pub current : Attributes

-- sets of names
abbrev pub Names : Type 0
Names = set.FinSet nat_cmp

-- names are below it
abbrev pub name_limit : ℕ
name_limit = 2 ^ 48

-- as many attributes may a node have
abbrev pub max_attributes : ℕ
max_attributes = 64

-- the numbers that a field of a kind may hold
abbrev pub IsInRange : Kind → Field → ℤ → Type 0
IsInRange kind f x = IsHeld (held kind f) x

-- the ids and values that attributes take
abbrev pub last_attribute_id : ℤ
last_attribute_id = pos 65535

abbrev pub least_attribute_value : ℤ
least_attribute_value = neg_ℤ (pos 2147483646)

abbrev pub greatest_attribute_value : ℤ
greatest_attribute_value = pos 2147483647

-- whether an id and a value are in their ranges
abbrev pub is_attribute : ℤ → ℤ → Bool
is_attribute id v = (int_le (pos 0) id && int_le id last_attribute_id) && (int_le least_attribute_value v && int_le v greatest_attribute_value)

pub record AreLawful (attributes : Attributes) : Type 0 where
  pub few : map.len attributes ≤ max_attributes
  pub entries : (id v : ℤ) → map.get attributes id ≡ Some v → is_attribute id v ≡ true

-- each number is in its field's range, and each link holds a name that has been given
pub record IsLawfulNode (next : ℕ) (node : Node) : Type 0 where
  pub numbers : (f : Field) (x : ℤ) → field_of node.fields f ≡ Ok (Number x) → IsInRange (kind_of node.fields.contents) f x
  pub links : (f : Field) (n : ℕ) → field_of node.fields f ≡ Ok (Link (Some n)) → n < next
  pub attributes : AreLawful node.attributes

-- Every name that is live or linked has been given, no heap is too large, and each number is in its field's range.
pub record IsLawful (heap : Heap) : Type 0 where
  pub next : heap.next ≤ name_limit
  pub few : map.len heap.nodes ≤ max_nodes
  pub names : (n : ℕ) (node : Node) → map.get heap.nodes n ≡ Some node → n < heap.next
  pub nodes : (n : ℕ) (node : Node) → map.get heap.nodes n ≡ Some node → IsLawfulNode heap.next node
  pub current : AreLawful heap.current

abbrev pub is_live : Heap → ℕ → Bool
is_live heap n = is_some (map.get heap.nodes n)

-- a link to a live node, or to nothing
abbrev pub IsLiveLink : Heap → Option ℕ → Type 0
IsLiveLink heap to = (n : ℕ) → to ≡ Some n → is_live heap n ≡ true

-- each name of the set is live
abbrev pub AreLive : Heap → Names → Type 0
AreLive heap names = (n : ℕ) → set.contains names n ≡ true → is_live heap n ≡ true
