-- How a plain heap keeps its nodes: slots by name, each with a node and the number of the walk that last visited it.
use Rattle.std.specs.Prelude.{◌≡◌, ◌≤◌, ℕ, nat_eq, cond, List, [], ◌∷◌, map, Option, None, Some, Result, if◌then◌else◌}
use Rattle.std.specs.Ordering.{nat_cmp}
use Rattle.std.specs.Map.{lookup}
use Rattle.std.specs.BTreeMap.{is_at}
use Rattle.std.specs.FinMap.{FinMap, from_entries}
use Rattle.std.specs.FinSet as set
use Rattle.ntx_num.specs.Answer.{result_map, Steps}
use Rattle.ntx_num.specs.declared.answer.Fail.{Fail}
use Rattle.ntx_nodes.specs.Heap.{Attributes, Names}
use Rattle.ntx_nodes.specs.declared.node.Node.{Node}
use Rattle.ntx_nodes.specs.declared.table.Slot.{Slot}
use Rattle.ntx_nodes.specs.declared.trouble.Trouble.{Trouble}

-- the slots by name, in order
abbrev pub Slots : Type 0
Slots = List (ℕ × Slot)

-- the slot of a name
abbrev pub slot_at : Slots → ℕ → Option Slot
slot_at slots n = lookup (is_at (nat_cmp n)) slots

-- the slot of this name is another, and all else is as it was
abbrev pub Puts : Slots → Slots → ℕ → Option Slot → Type 0
Puts old new n slot = (q : ℕ) → slot_at new q ≡ cond (is_at (nat_cmp n) q) slot (slot_at old q)

-- The attributes of the node in a slot are changed as stated, or stay where the change is refused or memory runs out.
abbrev pub ChangesAttributes : Slots → Slots → ℕ → Slot → Result Attributes Trouble → Result (Unit {0}) (Fail Trouble) → Type 0
ChangesAttributes old new n slot change result =
    (a : Attributes) × Steps result slot.node.attributes a (result_map (λ b. (tt, b)) change)
    × Puts old new n (Some (record slot { node = record slot.node { attributes = a } }))

-- the nodes in slots
abbrev pub nodes_of : Slots → FinMap nat_cmp Node
nodes_of slots = from_entries (map (λ e. (e.0, e.1.node)) slots)

-- the names of the slots that the walk of this number visited: at a name that stood twice the first slot would count
abbrev pub visited_of : ℕ → Slots → Names
visited_of walk [] = set.empty
visited_of walk (e ∷ es) = if nat_eq e.1.walk walk then set.insert (visited_of walk es) e.0 else set.remove (visited_of walk es) e.0

-- the number of the walk that last visited a slot, 0 where there is none
abbrev pub last_walk : Option Slot → ℕ
last_walk None = 0
last_walk (Some slot) = slot.walk

-- walks are counted from 1, and none that visited a slot has a greater number than this one
abbrev pub IsCounted : ℕ → Slots → Type 0
IsCounted walk slots = (1 ≤ walk) × ((n : ℕ) → last_walk (slot_at slots n) ≤ walk)
