-- What a copy is by itself.
--     names_from first count     as many names, one after another
--     copies_of                  the names of the copies of some of the names that are copied
--     IsListCopy, IsTreeCopy     what is true of the copy of a list, and of the copy of a node with its inner lists
--     StopsRightly               what is true of the place at which copying stops
use Rattle.std.specs.Prelude.{◌≡◌, ◌<◌, ◌≤◌, ℕ, zero, suc, ◌+◌, List, [], ◌∷◌, ◌++◌, length, Option, None, Some, Ok, Err, false}
use Rattle.std.specs.FinMap as map
use Rattle.ntx_nodes.specs.Heap.{Heap, is_live}
use Rattle.ntx_nodes.specs.Steps.{next_name}
use Rattle.ntx_nodes.specs.Walk.{walk_from, tree_walk}
use Rattle.ntx_nodes.specs.declared.kind.ListKind.{ListKind}
use Rattle.ntx_nodes.specs.declared.kind.Way.{Way}
use Rattle.ntx_nodes.specs.declared.node.Node.{Node}
use Rattle.ntx_lists.specs.Copies.{copy_name, room, why_no_more}

abbrev pub names_from : ℕ → ℕ → List ℕ
names_from first zero = []
names_from first (suc count) = first ∷ names_from (first + 1) count

-- one more name, where there is one
abbrev pub with_name : Option ℕ → List ℕ → List ℕ
with_name None names = names
with_name (Some n) names = n ∷ names

abbrev pub copies_of : ℕ → List ℕ → List ℕ → List ℕ
copies_of first names [] = []
copies_of first names (n ∷ ns) = with_name (copy_name first names n) (copies_of first names ns)

-- The nodes of these names are copied in this way into a new heap: each under a name of its own, the first under the next name, and none under a
-- name that a node had before. What was there before stays.
pub record AreCopied (heap new : Heap) (copy : ℕ → Node → Node) (names : List ℕ) : Type 0 where
  pub copies : (before : List ℕ) (n : ℕ) (rest : List ℕ) (node : Node) → names ≡ before ++ n ∷ rest → map.get heap.nodes n ≡ Some node → map.get new.nodes (heap.next + length before) ≡ Some (copy n node)
  pub apart : (q : ℕ) → heap.next ≤ q → is_live heap q ≡ false
  pub kept : (q : ℕ) → q < heap.next → map.get new.nodes q ≡ map.get heap.nodes q
  pub count : map.len new.nodes ≡ map.len heap.nodes + length names
  pub next : new.next ≡ heap.next + length names

-- Each walk of the copy reaches the copies of what the same walk of the list reaches, and as many. All of them are the next names.
pub record IsListCopy (heap new : Heap) (head copy : Option ℕ) (names : List ℕ) : Type 0 where
  pub walks : (way : Way) (k : ListKind) (reached : List ℕ) → walk_from heap way head k ≡ Ok reached → walk_from new way copy k ≡ Ok (copies_of heap.next names reached)
  pub as_many : (way : Way) (k : ListKind) (reached : List ℕ) → walk_from heap way head k ≡ Ok reached → length (copies_of heap.next names reached) ≡ length reached
  pub all : copies_of heap.next names names ≡ names_from heap.next (length names)

-- The same of the walk of one node with its inner lists.
abbrev pub IsTreeCopy : Heap → Heap → ℕ → List ℕ → Type 0
IsTreeCopy heap new copy names = tree_walk new copy ≡ Ok (names_from heap.next (length names))

-- As long as there is room, a copy takes the next name, and then it is refused.
pub record StopsRightly (heap made : Heap) (count : ℕ) : Type 0 where
  pub goes : count < room heap → next_name made ≡ Ok (heap.next + count)
  pub stops : count ≡ room heap → next_name made ≡ Err (why_no_more heap)
