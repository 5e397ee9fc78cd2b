-- Nodes made in the middle of a pass, as traces of heaps.
--     made_like fields from heap                     a node with these fields and the attributes of another
--     made_and_linked fields from n f heap           the same, and then a link of the node n leads to it
--     IsOfMaking, RefusesMakings, RefusesAs          how a making refuses, and how a pass that checks its list and makes nodes does
--     HasFields, TakesLink, KeepLinks                what a node holds, and which links can be set, after it as before
use Rattle.std.specs.Prelude.{◌≡◌, ◌⊎◌, ℕ, Some, Result, Err}
use Rattle.std.specs.FinMap as map
use Rattle.ntx_num.specs.Answer.{result_map}
use Rattle.ntx_num.specs.Trace.{Trace, stepped, trace_and_then}
use Rattle.ntx_num.specs.declared.answer.Fail.{Fail}
use Rattle.ntx_num.specs.declared.answer.Fail.TheVariants.{Is}
use Rattle.ntx_nodes.specs.FieldTable.{held, Linked}
use Rattle.ntx_nodes.specs.Fields.{kind_of}
use Rattle.ntx_nodes.specs.Heap.{Heap}
use Rattle.ntx_nodes.specs.Steps.{same_attrs_step, set_step}
use Rattle.ntx_nodes.specs.Walk.{checked_walk}
use Rattle.ntx_nodes.specs.Writing.{make_filled_step}
use Rattle.ntx_nodes.specs.declared.field.Field.{Field}
use Rattle.ntx_nodes.specs.declared.field.FieldValue.TheVariants.{Link}
use Rattle.ntx_nodes.specs.declared.fields.Fields.{Fields}
use Rattle.ntx_nodes.specs.declared.kind.ListKind.TheVariants.{H}
use Rattle.ntx_nodes.specs.declared.node.Node.{Node}
use Rattle.ntx_nodes.specs.declared.trouble.Trouble.{Trouble}
use Rattle.ntx_nodes.specs.declared.trouble.Trouble.TheVariants.{NodesFull, NamesOut}

-- a node is made with these fields, and then takes the attributes of another
abbrev pub made_like : Fields → ℕ → Heap → Trace Heap ℕ Trouble
made_like fields from heap =
    trace_and_then (stepped (make_filled_step fields heap) heap) (λ n made. stepped (result_map (λ done. (n, done.1)) (same_attrs_step n from made)) made)

-- and then a link of a node is set to it
abbrev pub made_and_linked : Fields → ℕ → ℕ → Field → Heap → Trace Heap ℕ Trouble
made_and_linked fields from n f heap =
    trace_and_then (made_like fields from heap) (λ new made. stepped (result_map (λ done. (new, done.1)) (set_step n f (Link (Some new)) made)) made)

-- ---- refusals
-- a making is refused
abbrev pub IsOfMaking : Trouble → Type 0
IsOfMaking why = (why ≡ NodesFull) ⊎ (why ≡ NamesOut)

-- a refusal is that of a making
abbrev pub RefusesMakings : {A : Type 0} → Result A (Fail Trouble) → Type 0
RefusesMakings (Err (Is why)) = IsOfMaking why
RefusesMakings _ = Unit {0}

-- the walk that checks the list stops, or a making is refused
abbrev pub RefusesAs : {A : Type 0} → Heap → ℕ → Result A (Fail Trouble) → Type 0
RefusesAs heap head (Err (Is why)) = (checked_walk heap (Some head) H ≡ Err why) ⊎ IsOfMaking why
RefusesAs heap head _ = Unit {0}

-- ---- what is there
-- a live node with these fields
pub record HasFields (heap : Heap) (n : ℕ) (fields : Fields) : Type 0 where
  pub node : Node
  pub at : map.get heap.nodes n ≡ Some node
  pub is : node.fields ≡ fields

-- a live node of a kind in which this field holds a link
pub record TakesLink (heap : Heap) (n : ℕ) (f : Field) : Type 0 where
  pub node : Node
  pub at : map.get heap.nodes n ≡ Some node
  pub linked : held (kind_of node.fields.contents) f ≡ Linked

-- such nodes stay so
abbrev pub KeepLinks : Heap → Heap → Type 0
KeepLinks old new = (n : ℕ) (f : Field) → TakesLink old n f → TakesLink new n f
