-- What the walker's parts do, in the words of walks: it keeps no names but the marks of the heap, and tells names to who asks.
use Rattle.std.specs.Prelude.{◌≡◌, ℕ, ◌+◌, List, [], ◌∷◌, ◌++◌, Bool, true, cond, Option, None, Result, Ok, Err, MatchResult}
use Rattle.std.specs.Option.{option_map}
use Rattle.std.specs.FinMap as map
use Rattle.std.specs.FinSet as set
use Rattle.ntx_num.specs.declared.answer.Fail.{Fail}
use Rattle.ntx_num.specs.declared.answer.Fail.TheVariants.{NoMemory, Is}
use Rattle.ntx_nodes.specs.Heap.{Heap, Names}
use Rattle.ntx_nodes.specs.Walk.{is_reached, entered, node_reached, walk, fuel_of}
use Rattle.ntx_nodes.specs.declared.kind.ListKind.{ListKind}
use Rattle.ntx_nodes.specs.declared.kind.ListKind.TheVariants.{H, V, Part}
use Rattle.ntx_nodes.specs.declared.kind.Way.{Way}
use Rattle.ntx_nodes.specs.declared.kind.Way.TheVariants.{Flat}
use Rattle.ntx_nodes.specs.declared.field.FieldValue.{FieldValue}
use Rattle.ntx_nodes.specs.declared.field.FieldValue.TheVariants.{Link}
use Rattle.ntx_nodes.specs.declared.fields.Fields.{Fields}
use Rattle.ntx_nodes.specs.declared.fields.Contents.{Contents}
use Rattle.ntx_nodes.specs.declared.fields.Contents.TheVariants as contents
use Rattle.ntx_nodes.specs.declared.node.Node.{Node}
use Rattle.ntx_nodes.specs.declared.walk.Onward.{Onward}
use Rattle.ntx_nodes.specs.declared.trouble.Trouble.{Trouble}

-- where a walk goes on at a node: the lists that it enters, and what follows
abbrev pub onward_of : Way → Fields → Onward
onward_of way fields = record { lists = entered way fields.contents; next = fields.next }

-- the names visited are those reached
abbrev pub Marks : Names → List ℕ → Type 0
Marks visited reached = (q : ℕ) → set.contains visited q ≡ is_reached reached q

-- a walk that has fuel enough
abbrev pub whole_walk : Heap → Way → List ℕ → Option ℕ → ℕ → ListKind → Result (List ℕ) Trouble
whole_walk heap way reached n depth k = walk heap way (fuel_of heap) reached n depth k

-- The walk ends well: it reaches more names, marks them, and tells them to who asks.
abbrev pub Ends : Heap → Way → Option ℕ → ℕ → ListKind → Names → Option (List ℕ) → Names → Option (List ℕ) → Type 0
Ends heap way n depth k visited old_names marked new_names =
    (before : List ℕ) → Marks visited before
    → (more : List ℕ) × (whole_walk heap way before n depth k ≡ Ok (before ++ more)) × Marks marked (before ++ more) × (new_names ≡ option_map (λ names. names ++ more) old_names)

-- The walk stops there.
abbrev pub Stops : Heap → Way → Option ℕ → ℕ → ListKind → Names → Trouble → Type 0
Stops heap way n depth k visited why = (before : List ℕ) → Marks visited before → whole_walk heap way before n depth k ≡ Err why

abbrev pub Walks : Heap → Way → Option ℕ → ℕ → ListKind → Names → Option (List ℕ) → Names → Option (List ℕ) → Result (Unit {0}) (Fail Trouble) → Type 0
Walks heap way n depth k visited old_names marked new_names (Ok u) = Ends heap way n depth k visited old_names marked new_names
Walks heap way n depth k visited old_names marked new_names (Err (Is why)) = Stops heap way n depth k visited why
Walks heap way n depth k visited old_names marked new_names (Err NoMemory) = Unit {0}

-- The walk comes to a node, which passes its tests.
abbrev pub Comes : Heap → Way → ℕ → ℕ → ListKind → Names → Option (List ℕ) → Names → Option (List ℕ) → Onward → Type 0
Comes heap way n depth k visited old_names marked new_names onward =
    (before : List ℕ) → Marks visited before
    → (node : Node) × (node_reached heap way before n depth k ≡ Ok node) × (onward ≡ onward_of way node.fields) × Marks marked (before ++ n ∷ []) × (new_names ≡ option_map (λ names. names ++ n ∷ []) old_names)

abbrev pub Reaches : Heap → Way → ℕ → ℕ → ListKind → Names → Option (List ℕ) → Names → Option (List ℕ) → Result Onward (Fail Trouble) → Type 0
Reaches heap way n depth k visited old_names marked new_names (Ok onward) = Comes heap way n depth k visited old_names marked new_names onward
Reaches heap way n depth k visited old_names marked new_names (Err (Is why)) = (before : List ℕ) → Marks visited before → node_reached heap way before n depth k ≡ Err why
Reaches heap way n depth k visited old_names marked new_names (Err NoMemory) = Unit {0}

-- how many entries have names that fail a test
abbrev pub failing : (ℕ → Bool) → List (ℕ × Node) → ℕ
failing test [] = 0
failing test (e ∷ es) = cond (test e.0) 0 1 + failing test es

-- how many live nodes were not visited
abbrev pub unvisited : Heap → Names → ℕ
unvisited heap visited = failing (set.contains visited) (map.entries heap.nodes)

-- what was visited stays so
abbrev pub Keeps : Names → Names → Type 0
Keeps old new = (q : ℕ) → set.contains old q ≡ true → set.contains new q ≡ true

-- A walk at a depth that goes on from the nodes visited already: for any list of just those, what the walk from it reaches, all of
-- it visited then.
abbrev pub WalksOn : Heap → Way → Option ℕ → ℕ → ListKind → Names → Names → Result (Unit {0}) Trouble → Type 0
WalksOn heap way head depth k visited marked result =
    (before : List ℕ) → Marks visited before
    → MatchResult result (λ _. (names : List ℕ) × (walk heap way (fuel_of heap) before head depth k ≡ Ok names) × Marks marked names) (λ why. walk heap way (fuel_of heap) before head depth k ≡ Err why)

-- The same, with the names that it reaches put at the end of those collected before.
abbrev pub NamesOn : Heap → Way → Option ℕ → ℕ → ListKind → Names → List ℕ → Names → Result (List ℕ) (Fail Trouble) → Type 0
NamesOn heap way head depth k visited old_names marked (Ok names) =
    (before : List ℕ) → Marks visited before
    → (more : List ℕ) × (walk heap way (fuel_of heap) before head depth k ≡ Ok (before ++ more)) × Marks marked (before ++ more) × (names ≡ old_names ++ more)
NamesOn heap way head depth k visited old_names marked (Err (Is why)) = Stops heap way head depth k visited why
NamesOn heap way head depth k visited old_names marked (Err NoMemory) = Unit {0}
