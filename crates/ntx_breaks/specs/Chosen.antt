-- The breaks that are chosen ("TeX: The Program", sections 863, 864 and 873 to 875).
--     found_in params items pass        the states of a whole pass, and whether the artificial rule gave a line, and one beyond the threshold
--     chosen end states                 the state at the end with the least total, the first of equal ones
--     chain_of states state             where the lines that lead to a state end
--     answer_of params items pass       what a pass comes to, if it has a state at the end
--     breaks_of params items            what the first pass that has one comes to, and no lines if none has one
use Rattle.std.specs.Prelude.{ℕ, zero, suc, ◌+◌, nat_eq, ℤ, pos, int_lt, Bool, false, ◌&&◌, ◌||◌, not, if◌then◌else◌, Option, Some, None, List, [], ◌∷◌, ◌++◌, length, take, slice_index, slice_index_or}
use Rattle.std.specs.Option.{unwrap_or}
use Rattle.std.specs.List.{filter, fold, list_any}
use Rattle.ntx_item.specs.declared.item.Item.{Item}
use Rattle.ntx_item.specs.Settings.{Settings}
use Rattle.ntx_legal.specs.Places.{places_of}
use Rattle.ntx_breaks.specs.declared.pass.Pass.{Pass}
use Rattle.ntx_breaks.specs.declared.state.State.{State}
use Rattle.ntx_breaks.specs.declared.way.Way.{Way}
use Rattle.ntx_breaks.specs.declared.answer.Breaks.{Breaks}
use Rattle.ntx_breaks.specs.Penalties.{is_forced}
use Rattle.ntx_breaks.specs.Passes.{passes_of}
use Rattle.ntx_breaks.specs.States.{start_state, is_wanted, ways_at}
use Rattle.ntx_breaks.specs.Making.{is_rescued, last_way, candidates_at, add_states}

-- ---- one pass

-- the states so far, in the order of places and then classes; whether the artificial rule gave a line; whether it gave one that is not wanted
pub record Found : Type 0 where
  pub states : List State
  pub artificial : Bool
  pub last_resort : Bool

abbrev pub is_last_resort : Pass → Bool → List Way → Bool
is_last_resort pass rescued ways = rescued && not (list_any (is_wanted pass) (last_way ways))

-- the states with those that these lines make at a place
abbrev pub found_with : Settings → List Item → Pass → ℕ → List Way → Bool → Found → Found
found_with params items pass to ways rescued found = record {
  states = add_states params (candidates_at params items pass to rescued ways) found.states;
  artificial = found.artificial || rescued;
  last_resort = found.last_resort || is_last_resort pass rescued ways;
}

abbrev pub found_at : Settings → List Item → Pass → List ℕ → ℕ → Found → Found
found_at params items pass earlier to found =
    let ways = ways_at params items pass earlier to found.states in
    found_with params items pass to ways (is_rescued pass (is_forced params items to) ways) found

-- the states up to a number of places
abbrev pub found_up_to : Settings → List Item → Pass → List ℕ → ℕ → Found
found_up_to params items pass places zero = record { states = start_state ∷ []; artificial = false; last_resort = false }
found_up_to params items pass places (suc n) = found_at params items pass (take n places) (slice_index places n) (found_up_to params items pass places n)

abbrev pub found_in : Settings → List Item → Pass → Found
found_in params items pass = let places = places_of params pass.discs items in found_up_to params items pass places (length places)

-- ---- the choice

-- the earlier one of equal ones
abbrev pub first_lesser : Option State → State → Option State
first_lesser None state = Some state
first_lesser (Some best) state = if int_lt state.total best.total then Some state else Some best

abbrev pub chosen : ℕ → List State → Option State
chosen end states = fold first_lesser None (filter (λ (s : State). nat_eq s.place end) states)

-- in at most so many steps back
abbrev pub chain_back : List State → ℕ → State → List ℕ
chain_back states zero state = []
chain_back states (suc steps) state =
    if nat_eq state.place 0 then [] else chain_back states steps (slice_index_or states state.before start_state) ++ state.place ∷ []

abbrev pub chain_of : List State → State → List ℕ
chain_of states state = chain_back states (length states) state

-- ---- the answer

-- what contracts see of `Breaks`
pub record Answer : Type 0 where
  pub places : List ℕ
  pub pass : ℕ
  pub demerits : ℤ
  pub artificial : Bool
  pub last_resort : Bool

abbrev pub breaks_seen : Breaks → Answer
breaks_seen breaks = record {
  places = breaks.places.items;
  pass = breaks.pass;
  demerits = breaks.demerits;
  artificial = breaks.artificial;
  last_resort = breaks.last_resort;
}

abbrev pub answer_with : Pass → Found → Option State → Option Answer
answer_with pass found None = None
answer_with pass found (Some state) = Some (record {
  places = chain_of found.states state;
  pass = pass.number;
  demerits = state.total;
  artificial = found.artificial;
  last_resort = found.last_resort;
})

abbrev pub answer_of : Settings → List Item → Pass → Option Answer
answer_of params items pass = let found = found_in params items pass in answer_with pass found (chosen (length items + 1) found.states)

abbrev pub or_else : Option Answer → Option Answer → Option Answer
or_else None later = later
or_else (Some answer) later = Some answer

abbrev pub first_answer : Settings → List Item → List Pass → Option Answer
first_answer params items [] = None
first_answer params items (pass ∷ passes) = or_else (answer_of params items pass) (first_answer params items passes)

-- what no pass comes to
abbrev pub no_lines : Answer
no_lines = record { places = []; pass = 0; demerits = pos 0; artificial = false; last_resort = false }

abbrev pub breaks_of : Settings → List Item → Answer
breaks_of params items = unwrap_or (first_answer params items (passes_of params)) no_lines
