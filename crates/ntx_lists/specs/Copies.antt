-- What copying does to a heap ("TeX: The Program", sections 203 to 206). The nodes that a walk reaches are copied in its order. The copy of the
-- i-th of them, counted from 0, takes the name that is i above the old heap's next name. A link that the walk followed leads in the copy to the
-- copy of what it led to; a copy has no other link. All else of the heap stays, its nodes and the current attributes.
--     copy_name, copied_link       the name of a node's copy, and the copy of a link
--     list_copy, tree_copy         the copy of a node, where a list is copied, and where one node is copied with its inner lists
--     with_copies                  a heap with such copies
--     room, why_no_more            how many copies can be made, and why not more
--     copy_list_step, copy_tree_step, Copies      what the calls do, and what they leave
use Rattle.std.specs.Prelude.{◌≡◌, ◌≤◌, ◌<◌, ℕ, ◌+◌, ◌-◌, min, nat_le, List, [], ◌∷◌, length, nat_eq, if◌then◌else◌, Option, None, Some, Result, Ok, Err}
use Rattle.std.specs.Option.{option_and_then, option_map}
use Rattle.std.specs.Ordering.{nat_cmp}
use Rattle.std.specs.FinMap as map
use Rattle.ntx_num.specs.declared.answer.Fail.{Fail}
use Rattle.ntx_num.specs.declared.answer.Fail.TheVariants.{NoMemory, Is}
use Rattle.ntx_num.specs.Dimension.{max_nodes}
use Rattle.ntx_nodes.specs.Heap.{Heap, name_limit}
use Rattle.ntx_nodes.specs.Walk.{plain_walk, tree_walk, inner_lists}
use Rattle.ntx_nodes.specs.declared.fields.Contents.{Contents}
use Rattle.ntx_nodes.specs.declared.fields.Contents.TheVariants as contents
use Rattle.ntx_nodes.specs.declared.node.Node.{Node}
use Rattle.ntx_nodes.specs.declared.trouble.Trouble.{Trouble}
use Rattle.ntx_nodes.specs.declared.trouble.Trouble.TheVariants.{NodesFull, NamesOut}
use Rattle.ntx_nodes.specs.declared.inner.InnerLists.{InnerLists}

-- ---- names and links
-- Copies of these names take one name after another, from first on: the name of the copy of n, if n is among them.
abbrev pub copy_name : ℕ → List ℕ → ℕ → Option ℕ
copy_name first [] n = None
copy_name first (m ∷ ms) n = if nat_eq n m then Some first else copy_name (first + 1) ms n

-- the copy of what a link leads to, or nothing where it leads to nothing that was copied
abbrev pub copied_link : ℕ → List ℕ → Option ℕ → Option ℕ
copied_link first names to = option_and_then (copy_name first names) to

-- the same contents with these inner lists
abbrev pub with_lists : Contents → InnerLists → Contents
with_lists (contents.Hlist b) lists = contents.Hlist (record b { list = lists.first })
with_lists (contents.Vlist b) lists = contents.Vlist (record b { list = lists.first })
with_lists (contents.Disc d) lists = contents.Disc (record { pre = lists.first; post = lists.second; replace = lists.third })
with_lists c lists = c

-- a node of the same kind, subtype, numbers and attributes, with these inner lists, and followed by this
abbrev pub relinked : Node → InnerLists → Option ℕ → Node
relinked node lists next = record { fields = record { subtype = node.fields.subtype; next = next; contents = with_lists node.fields.contents lists }; attributes = node.attributes }

-- ---- one copy
-- the copies of inner lists
abbrev pub copied_lists : ℕ → List ℕ → InnerLists → InnerLists
copied_lists first names lists = record { first = copied_link first names lists.first; second = copied_link first names lists.second; third = copied_link first names lists.third; kind = lists.kind }

-- The copy of a node has the copies of its inner lists, and is followed by the copy of this.
abbrev pub copy_before : ℕ → List ℕ → Option ℕ → Node → Node
copy_before first names next node = relinked node (copied_lists first names (inner_lists node.fields.contents)) (copied_link first names next)

-- of a list: the copy of what follows a node follows its copy
abbrev pub list_copy : ℕ → List ℕ → ℕ → Node → Node
list_copy first names n node = copy_before first names node.fields.next node

-- of one node with its inner lists: nothing follows the copy of that node
abbrev pub tree_copy : ℕ → ℕ → List ℕ → ℕ → Node → Node
tree_copy root first names n node = copy_before first names (if nat_eq n root then None else node.fields.next) node

-- ---- all copies
-- a node under a name, where there is a node
abbrev pub with_found : ℕ → (Node → Node) → map.FinMap nat_cmp Node → Option Node → map.FinMap nat_cmp Node
with_found at copy nodes None = nodes
with_found at copy nodes (Some node) = map.insert nodes at (copy node)

-- more nodes: copies of the old ones of these names, under one name after another from first on
abbrev pub nodes_with : map.FinMap nat_cmp Node → (ℕ → Node → Node) → ℕ → List ℕ → map.FinMap nat_cmp Node → map.FinMap nat_cmp Node
nodes_with old copy first [] nodes = nodes
nodes_with old copy first (n ∷ ns) nodes = nodes_with old copy (first + 1) ns (with_found first (copy n) nodes (map.get old n))

-- the heap with copies of its nodes of these names, of which the first takes the next name
abbrev pub with_copies : Heap → (ℕ → Node → Node) → List ℕ → Heap
with_copies heap copy names = record { next = heap.next + length names; nodes = nodes_with heap.nodes copy heap.next names heap.nodes; current = heap.current }

-- the heap in which as many names more have been given, and nothing else has changed
abbrev pub moved_on : Heap → ℕ → Heap
moved_on heap count = record heap { next = heap.next + count }

-- ---- how many
-- How many copies can be made, until as many nodes are live as may be or no name is left.
abbrev pub room : Heap → ℕ
room heap = min (max_nodes - map.len heap.nodes) (name_limit - heap.next)

-- Why no more can be made then: that nodes are full comes before that names are out.
abbrev pub why_no_more : Heap → Trouble
why_no_more heap = if nat_le (max_nodes - map.len heap.nodes) (name_limit - heap.next) then NodesFull else NamesOut

-- ---- steps
-- an answer or a refusal, and the heap that is left
abbrev pub Left : Type 0 → Type 0
Left A = Result A Trouble × Heap

-- What a walk reaches is copied. Where the walk stops, nothing is made. Where there is not room for all copies, as many as there is room for
-- have been made, and are gone again: their names alone stay given.
abbrev pub copies_left : {A : Type 0} → Heap → (List ℕ → ℕ → Node → Node) → A → Result (List ℕ) Trouble → Left A
copies_left heap copy answer (Ok names) =
    if nat_le (length names) (room heap) then (Ok answer, with_copies heap (copy names) names)
    else (Err (why_no_more heap), moved_on heap (room heap))
copies_left heap copy answer (Err why) = (Err why, heap)

-- The list at a head is copied. The answer is the copy of the head, which takes the next name.
abbrev pub copy_list_step : Option ℕ → Heap → Left (Option ℕ)
copy_list_step head heap = copies_left heap (list_copy heap.next) (option_map (λ _. heap.next) head) (plain_walk heap head)

-- A node is copied with its inner lists, and not what follows it.
abbrev pub copy_tree_step : ℕ → Heap → Left ℕ
copy_tree_step n heap = copies_left heap (tree_copy n heap.next) heap.next (tree_walk heap n)

-- Fewer copies than there are names were made, and no more than there was room for; they are gone again.
abbrev pub Unfinished : Heap → Heap → Result (List ℕ) Trouble → Type 0
Unfinished old new (Ok names) = (made : ℕ) × (made < length names) × (made ≤ room old) × (new ≡ moved_on old made)
Unfinished old new (Err why) = ⊥

-- The call that copies what a walk reaches gives or refuses what the step does, and leaves its heap. Where memory runs out the walk has come to
-- its end, and the copies made until then are gone again.
abbrev pub Copies : {A : Type 0} → Result A (Fail Trouble) → Heap → Heap → Result (List ℕ) Trouble → Left A → Type 0
Copies (Ok a) old new walk step = step ≡ (Ok a, new)
Copies (Err (Is why)) old new walk step = step ≡ (Err why, new)
Copies (Err NoMemory) old new walk step = Unfinished old new walk
