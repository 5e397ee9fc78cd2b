-- What is seen on the way along one list, as far as its calls need it.
--     survey_of names cur      what is seen on the way along these names
--     Surveys, Finds           what a survey gives that goes on from nodes visited already, and what is found by it
--     Follows                  what setting a link does
use Rattle.std.specs.Prelude.{◌≡◌, ℕ, ◌+◌, List, [], ◌∷◌, ◌++◌, length, nat_eq, not, ◌||◌, if◌then◌else◌, Option, None, Some, Result, Ok, Err, true, IfOk, MatchResult}
use Rattle.ntx_num.specs.Answer.{result_map}
use Rattle.ntx_nodes.specs.Heap.{Heap, Names, is_live}
use Rattle.ntx_nodes.specs.Walk.{is_reached}
use Rattle.ntx_nodes.specs.Walker.{Marks, whole_walk}
use Rattle.ntx_nodes.specs.declared.kind.ListKind.TheVariants.{H}
use Rattle.ntx_nodes.specs.declared.kind.Way.TheVariants.{Flat}
use Rattle.ntx_nodes.specs.declared.trouble.Trouble.{Trouble}
use Rattle.ntx_lists.specs.Lists.{name_before, next_of, with_next, with_next_at, list_with, room_for, place_in}
use Rattle.ntx_lists.specs.declared.survey.Survey.{Survey}

-- the last of these names, and without any what was before them
abbrev pub last_from : Option ℕ → List ℕ → Option ℕ
last_from before [] = before
last_from before (n ∷ ns) = last_from (Some n) ns

abbrev pub survey_of : List ℕ → ℕ → Survey
survey_of names cur = record { length = length names; last = last_from None names; before = name_before None names cur; found = is_reached names cur }

-- What is seen with one more name at the end. Where cur stood before, that place counts.
abbrev pub survey_with : Survey → ℕ → ℕ → Survey
survey_with seen n cur = record {
  length = seen.length + 1;
  last = Some n;
  before = if seen.found || not (nat_eq cur n) then seen.before else seen.last;
  found = seen.found || nat_eq cur n;
}

-- The names of the list, after any list of just the names visited, what is seen of them, and all of them visited then.
abbrev pub Surveys : Heap → ℕ → ℕ → Names → Names → Result Survey Trouble → Type 0
Surveys heap head cur visited marked result =
    (before : List ℕ) → Marks visited before
    → MatchResult result (λ seen. (names : List ℕ) × (whole_walk heap Flat before (Some head) 0 H ≡ Ok (before ++ names)) × Marks marked (before ++ names) × (seen ≡ survey_of names cur)) (λ why. whole_walk heap Flat before (Some head) 0 H ≡ Err why)

-- a link to a live node, or to nothing
abbrev pub IsLiveLink : Heap → Option ℕ → Type 0
IsLiveLink heap to = (m : ℕ) → to ≡ Some m → is_live heap m ≡ true

-- The node before cur in a list beside these names. Where there is one it is live, and so is what follows cur, if anything does.
abbrev pub Finds : Heap → ℕ → ℕ → List ℕ → Result (Option ℕ) Trouble → Type 0
Finds heap head cur others result =
    (result ≡ result_map (λ names. name_before None names cur) (list_with heap others head cur))
    × IfOk result (λ before. IsLiveLink heap before × IsLiveLink heap (next_of heap cur))

-- The node before cur, where cur can be taken out. All that a removal links is live.
abbrev pub FindsIn : Heap → ℕ → ℕ → Result (Option ℕ) Trouble → Type 0
FindsIn heap head cur result =
    (result ≡ place_in heap head cur (λ names. name_before None names cur))
    × IfOk result (λ before. IsLiveLink heap before × IsLiveLink heap (next_of heap cur) × (is_live heap cur ≡ true))

-- The node before cur, where new has room there. All that an insertion links is live.
abbrev pub FindsRoom : Heap → ℕ → ℕ → ℕ → Result (Option ℕ) Trouble → Type 0
FindsRoom heap head cur new result =
    (result ≡ room_for heap head cur new (λ names. name_before None names cur))
    × IfOk result (λ before. IsLiveLink heap before × IsLiveLink heap (next_of heap cur) × (is_live heap cur ≡ true) × (is_live heap new ≡ true))

-- A live node is followed by another live one, or by nothing.
abbrev pub Follows : Heap → Heap → ℕ → Option ℕ → Result (Unit {0}) Trouble → Type 0
Follows old new n to result = is_live old n ≡ true → IsLiveLink old to → (result ≡ Ok tt) × (new ≡ with_next old n to)

-- the same of a node that may be none
abbrev pub FollowsAt : Heap → Heap → Option ℕ → Option ℕ → Result (Unit {0}) Trouble → Type 0
FollowsAt old new n to result = IsLiveLink old n → IsLiveLink old to → (result ≡ Ok tt) × (new ≡ with_next_at old n to)
