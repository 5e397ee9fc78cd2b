-- Nodes by name with marks on some, as a value.
use Rattle.std.specs.Prelude.{ℕ, Result}
use Rattle.std.specs.Ordering.{nat_cmp}
use Rattle.std.specs.FinMap.{FinMap, get}
use Rattle.ntx_nodes.specs.Heap.{Heap, Names}
use Rattle.ntx_nodes.specs.Steps.{of_found}
use Rattle.ntx_nodes.specs.declared.node.Node.{Node}
use Rattle.ntx_nodes.specs.declared.trouble.Trouble.{Trouble}

-- nodes by name, and the names visited since the walk began
pub record MarkedNodes : Type 0 where
  pub nodes : FinMap nat_cmp Node
  pub visited : Names

-- what f makes of the node of this name, which has to be there
abbrev pub at_name : {A : Type 0} → MarkedNodes → ℕ → (Node → Result A Trouble) → Result A Trouble
at_name marked n f = of_found n f (get marked.nodes n)

-- a heap, and the names visited since the walk began
pub record MarkedHeap : Type 0 where
  pub heap : Heap
  pub visited : Names
