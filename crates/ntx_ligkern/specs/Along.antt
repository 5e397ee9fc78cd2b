-- The nodes of a list, one after another.
--     next_of heap n         what follows a node, and nothing after a dead one
--     along heap to          the names of the list that a link leads to, where its end comes before more nodes than are live
--     AlongIsTheWalk         the law that these are the names that a flat walk reaches, if it ends well
use Rattle.std.specs.Prelude.{◌≡◌, ℕ, zero, suc, List, [], ◌∷◌, Option, None, Some, Ok}
use Rattle.std.specs.Option.{option_and_then}
use Rattle.std.specs.FinMap as fin
use Rattle.ntx_nodes.specs.Heap.{Heap}
use Rattle.ntx_nodes.specs.Walk.{fuel_of, flat_walk}

abbrev pub next_of : Heap → ℕ → Option ℕ
next_of heap n = option_and_then (λ node. node.fields.next) (fin.get heap.nodes n)

abbrev pub first_along : Heap → ℕ → Option ℕ → List ℕ
first_along heap zero to = []
first_along heap (suc most) None = []
first_along heap (suc most) (Some n) = n ∷ first_along heap most (next_of heap n)

abbrev pub along : Heap → Option ℕ → List ℕ
along heap to = first_along heap (fuel_of heap) to

abbrev pub AlongIsTheWalk : Type 0
AlongIsTheWalk = (heap : Heap) (to : Option ℕ) (names : List ℕ) → flat_walk heap to ≡ Ok names → along heap to ≡ names
