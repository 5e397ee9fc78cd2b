-- Chores that the code does, one turn after another.
--     Runs         turns that do all these chores, and how they end
--     RunsOn       what turns from one state on do, those from an earlier state do too
--     Reaches      a call that does the first chores and leaves others in their place
use Rattle.std.specs.Prelude.{◌+◌, ◌*◌, ◌-◌, ℕ, Bool, if◌then◌else◌, List, [], ◌∷◌, ◌++◌, length, Option, Some, None, Result, Ok, Err}
use Rattle.ntx_num.specs.Answer.{result_map}
use Rattle.ntx_num.specs.Trace.{EndsAs}
use Rattle.ntx_num.specs.declared.answer.Fail.{Fail}
use Rattle.ntx_nodes.specs.Heap.{Heap, name_limit}
use Rattle.ntx_nodes.specs.declared.field.Field.TheVariants.{Pre, Post, Replace}
use Rattle.ntx_nodes.specs.declared.trouble.Trouble.{Trouble}
use Rattle.ntx_tfm.specs.Font.{FontTables}
use Rattle.ntx_ligkern.specs.Ligatures.{Spot, spot_in}
use Rattle.ntx_ligkern.specs.Ligaturing.{Chore, OfDisc, AtDisc, InList, from_spot, turns, finished}

abbrev pub Runs : List FontTables → ℕ → List Chore → Heap → Result ℕ (Fail Trouble) → Heap → Type 0
Runs fonts head chores heap result new = (k : ℕ) × EndsAs (result_map finished result) new (turns k fonts (record { head = head; chores = chores }) heap)

abbrev pub RunsOn : List FontTables → ℕ → List Chore → Heap → ℕ → List Chore → Heap → Type 0
RunsOn fonts head chores heap later left now = (rest : List Chore) (r : Result ℕ (Fail Trouble)) (new : Heap) → Runs fonts later (left ++ rest) now r new → Runs fonts head (chores ++ rest) heap r new

-- the turns stop there
abbrev pub RunsTo : List FontTables → ℕ → List Chore → Heap → Fail Trouble → Heap → Type 0
RunsTo fonts head chores heap e new = (rest : List Chore) → Runs fonts head (chores ++ rest) heap (Err e) new

-- a call that leaves the head of the list
abbrev pub Reaches : {A : Type 0} → List FontTables → List Chore → Heap → Result A (Fail Trouble) → (A → List Chore) → Heap → Type 0
Reaches fonts chores old (Ok a) left new = (head : ℕ) → RunsOn fonts head chores old head (left a) new
Reaches fonts chores old (Err e) left new = (head : ℕ) → RunsTo fonts head chores old e new

-- and one that gives the new head
abbrev pub ReachesFrom : {A : Type 0} → List FontTables → ℕ → List Chore → Heap → Result A (Fail Trouble) → (A → ℕ) → (A → List Chore) → Heap → Type 0
ReachesFrom fonts head chores old (Ok a) later left new = RunsOn fonts head chores old (later a) (left a) new
ReachesFrom fonts head chores old (Err e) later left new = RunsTo fonts head chores old e new

-- ---- at a discretionary
abbrev pub three_parts : ℕ → List Chore
three_parts disc = OfDisc disc Pre ∷ OfDisc disc Post ∷ OfDisc disc Replace ∷ []

-- it may take in more, or its lists are gone through
abbrev pub after_absorbing : Bool → ℕ → List ℕ → List Chore
after_absorbing more disc ahead = if more then AtDisc disc ahead ∷ [] else three_parts disc ++ from_spot InList (spot_in (Some disc) 0 ahead)

-- ---- turns that end
-- how much is left to do in a list at a spot: more at a lower next name, with more nodes ahead, and after fewer steps
abbrev pub left_at : Heap → ℕ → ℕ → ℕ
left_at heap ahead count = (name_limit - heap.next) * 1024 + ahead * 256 + (255 - count)

abbrev pub left_from : Heap → Option Spot → ℕ
left_from heap None = 0
left_from heap (Some spot) = 1 + left_at heap (length spot.ahead) spot.count
