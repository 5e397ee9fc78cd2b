-- What the calls do that go along one list, as steps of a heap (LuaTeX Reference Manual, chapter "Nodes").
--     list_beside, list_with      the names of a list, which a node is not in; in which a node is
--     tail_answer, length_answer  the last node; how many there are
--     insert_before_step, insert_after_step, remove_step      a list with one node more or less
use Rattle.std.specs.Prelude.{ℕ, List, [], ◌∷◌, length, drop, nat_eq, if◌then◌else◌, Option, None, Some, Result, Ok, Err}
use Rattle.std.specs.Option.{option_and_then}
use Rattle.std.specs.FinMap as map
use Rattle.ntx_num.specs.Answer.{result_map, result_and_then}
use Rattle.ntx_nodes.specs.Heap.{Heap}
use Rattle.ntx_nodes.specs.Steps.{at, put_fields}
use Rattle.ntx_nodes.specs.Walk.{is_reached, walk, fuel_of, flat_walk}
use Rattle.ntx_nodes.specs.declared.kind.ListKind.TheVariants.{H}
use Rattle.ntx_nodes.specs.declared.kind.Way.TheVariants.{Flat}
use Rattle.ntx_nodes.specs.declared.node.Node.{Node}
use Rattle.ntx_nodes.specs.declared.trouble.Trouble.{Trouble}
use Rattle.ntx_nodes.specs.declared.trouble.Trouble.TheVariants.{NotInList}

-- ---- names in a list
-- the last of these names, and without any this one
abbrev pub last_of : ℕ → List ℕ → ℕ
last_of n [] = n
last_of n (m ∷ ms) = last_of m ms

-- The name that stands before cur, where one stood before these already.
abbrev pub name_before : Option ℕ → List ℕ → ℕ → Option ℕ
name_before before [] cur = None
name_before before (n ∷ ns) cur = if nat_eq cur n then before else name_before (Some n) ns cur

-- ---- links
-- what follows a node
abbrev pub next_of : Heap → ℕ → Option ℕ
next_of heap n = option_and_then (λ node. node.fields.next) (map.get heap.nodes n)

-- the heap in which another node, or none, follows the node found under a name
abbrev pub follow_by : Heap → ℕ → Option ℕ → Option Node → Heap
follow_by heap n to None = heap
follow_by heap n to (Some node) = put_fields heap n node (record node.fields { next = to })

-- the heap in which another node, or none, follows a node
abbrev pub with_next : Heap → ℕ → Option ℕ → Heap
with_next heap n to = follow_by heap n to (map.get heap.nodes n)

-- the same of the node of this name, if there is one
abbrev pub with_next_at : Heap → Option ℕ → Option ℕ → Heap
with_next_at heap None to = heap
with_next_at heap (Some n) to = with_next heap n to

-- ---- answers
abbrev pub tail_answer : ℕ → Heap → Result ℕ Trouble
tail_answer head heap = result_map (last_of head) (flat_walk heap (Some head))

abbrev pub length_answer : Option ℕ → Heap → Result ℕ Trouble
length_answer head heap = result_map length (flat_walk heap head)

-- The list at a head, along which the walk must not come to these names: Loop, where it does.
abbrev pub list_beside : Heap → List ℕ → ℕ → Result (List ℕ) Trouble
list_beside heap others head = result_map (drop (length others)) (walk heap Flat (fuel_of heap) others (Some head) 0 H)

-- the same of a list in which cur is
abbrev pub list_with : Heap → List ℕ → ℕ → ℕ → Result (List ℕ) Trouble
list_with heap others head cur = result_and_then (list_beside heap others head) (λ names. if is_reached names cur then Ok names else Err (NotInList cur))

-- ---- steps
-- the new head, where something takes the place of a node
abbrev pub head_with : {A : Type 0} → ℕ → ℕ → A → A → A
head_with head cur in_its_place else_head = if nat_eq head cur then in_its_place else else_head

-- new comes between cur and the node before it
abbrev pub inserted_before : Heap → List ℕ → ℕ → ℕ → Heap
inserted_before heap names cur new = with_next_at (with_next heap new (Some cur)) (name_before None names cur) (Some new)

-- the tests of an insertion: head, cur and new are live, and cur is in the list and new is not
abbrev pub room_for : {A : Type 0} → Heap → ℕ → ℕ → ℕ → (List ℕ → A) → Result A Trouble
room_for heap head cur new f = at heap head (λ _. at heap cur (λ _. at heap new (λ _. result_map f (list_with heap (new ∷ []) head cur))))

abbrev pub insert_before_step : ℕ → ℕ → ℕ → Heap → Result (ℕ × Heap) Trouble
insert_before_step head cur new heap = room_for heap head cur new (λ names. (head_with head cur new head, inserted_before heap names cur new))

-- new comes between cur and the node after it
abbrev pub inserted_after : Heap → ℕ → ℕ → Heap
inserted_after heap cur new = with_next (with_next heap new (next_of heap cur)) cur (Some new)

abbrev pub insert_after_step : ℕ → ℕ → ℕ → Heap → Result (ℕ × Heap) Trouble
insert_after_step head cur new heap = room_for heap head cur new (λ names. (head, inserted_after heap cur new))

-- the node before cur is followed by what followed cur, and cur by nothing
abbrev pub removed : Heap → List ℕ → ℕ → Heap
removed heap names cur = with_next (with_next_at heap (name_before None names cur) (next_of heap cur)) cur None

-- the new head, and the node that followed cur
abbrev pub left_by : Heap → ℕ → ℕ → Option ℕ × Option ℕ
left_by heap head cur = (head_with head cur (next_of heap cur) (Some head), next_of heap cur)

-- the tests of a removal: head and cur are live, and cur is in the list
abbrev pub place_in : {A : Type 0} → Heap → ℕ → ℕ → (List ℕ → A) → Result A Trouble
place_in heap head cur f = at heap head (λ _. at heap cur (λ _. result_map f (list_with heap [] head cur)))

abbrev pub remove_step : ℕ → ℕ → Heap → Result ((Option ℕ × Option ℕ) × Heap) Trouble
remove_step head cur heap = place_in heap head cur (λ names. (left_by heap head cur, removed heap names cur))
