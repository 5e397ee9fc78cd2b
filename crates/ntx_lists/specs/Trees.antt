-- What freeing does to a heap ("TeX: The Program", section 202): exactly the names that a walk reaches leave it.
use Rattle.std.specs.Prelude.{◌≡◌, ℕ, List, [], ◌∷◌, Option, None, Some, Result, Ok}
use Rattle.std.specs.Ordering.{nat_cmp}
use Rattle.std.specs.FinMap as map
use Rattle.ntx_num.specs.Answer.{result_map}
use Rattle.ntx_nodes.specs.Heap.{Heap}
use Rattle.ntx_nodes.specs.Walk.{no_lists, inner_lists, plain_walk, tree_walk}
use Rattle.ntx_nodes.specs.Walker.{whole_walk}
use Rattle.ntx_nodes.specs.declared.kind.ListKind.TheVariants.{H}
use Rattle.ntx_nodes.specs.declared.kind.Way.TheVariants.{Plain}
use Rattle.ntx_nodes.specs.declared.node.Node.{Node}
use Rattle.ntx_nodes.specs.declared.trouble.Trouble.{Trouble}
use Rattle.ntx_nodes.specs.declared.inner.InnerLists.{InnerLists}

-- the nodes but those of these names
abbrev pub nodes_without : map.FinMap nat_cmp Node → List ℕ → map.FinMap nat_cmp Node
nodes_without nodes [] = nodes
nodes_without nodes (n ∷ ns) = nodes_without (map.remove nodes n) ns

abbrev pub without : Heap → List ℕ → Heap
without heap names = record heap { nodes = nodes_without heap.nodes names }

-- a node with its inner lists
abbrev pub free_tree_step : ℕ → Heap → Result (Unit {0} × Heap) Trouble
free_tree_step n heap = result_map (λ names. (tt, without heap names)) (tree_walk heap n)

-- all that a list reaches
abbrev pub flush_list_step : Option ℕ → Heap → Result (Unit {0} × Heap) Trouble
flush_list_step head heap = result_map (λ names. (tt, without heap names)) (plain_walk heap head)

-- ---- how freeing goes
-- the inner lists of a node that is found, and none where none is
abbrev pub inner_of_found : Option Node → InnerLists
inner_of_found None = no_lists
inner_of_found (Some node) = inner_lists node.fields.contents

-- the same of the node of this name
abbrev pub inner_at : Heap → ℕ → InnerLists
inner_at heap n = inner_of_found (map.get heap.nodes n)

-- Where the walk of a list ends well in the whole heap, from names that are gone already, all the names that it reaches are gone then.
abbrev pub Frees : Heap → Heap → Option ℕ → ℕ → Type 0
Frees old new head depth = (whole : Heap) (gone names : List ℕ) → old ≡ without whole gone → whole_walk whole Plain gone head depth H ≡ Ok names → new ≡ without whole names
