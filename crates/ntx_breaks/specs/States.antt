-- The states of a pass ("TeX: The Program", sections 819 to 822 and 835 to 855). A state is a way to break the paragraph up to a place: of all ways
-- whose last line has one class it keeps the one with the least demerits.
--     start_state                       the paragraph begins with a line of class 2
--     way_to params items pass to state the line from a state to a place
--     falls forced way                  whether the state ends with that line: the place is forced, or the line is too wide
--     is_wanted pass way                whether the line is within the pass's threshold
--     is_alive params items pass earlier state    whether a line from the state may end after all these places: none of them ends the state
--     alive_states, ways_at
use Rattle.std.specs.Prelude.{ℕ, nat_le, pos, int_lt, int_le, Bool, ◌||◌, not, List, map}
use Rattle.std.specs.List.{filter, list_all}
use Rattle.ntx_item.specs.declared.item.Item.{Item}
use Rattle.ntx_item.specs.Settings.{Settings}
use Rattle.ntx_legal.specs.Lines.{line_of}
use Rattle.ntx_breaks.specs.declared.pass.Pass.{Pass}
use Rattle.ntx_breaks.specs.declared.state.State.{State}
use Rattle.ntx_breaks.specs.declared.way.Way.{Way}
use Rattle.ntx_breaks.specs.Penalties.{is_forced}

abbrev pub start_state : State
start_state = record { number = 0; place = 0; class = 2; total = pos 0; before = 0 }

abbrev pub way_to : Settings → List Item → Pass → ℕ → State → Way
way_to params items pass to state = record { from = state; line = line_of params items state.place to pass.extra }

-- a badness above 10000 is that of a line that cannot shrink enough
abbrev pub falls : Bool → Way → Bool
falls forced way = forced || int_lt (pos 10000) way.line.b

abbrev pub is_wanted : Pass → Way → Bool
is_wanted pass way = int_le way.line.b pass.threshold

-- `earlier` are the legal places before the one that is looked at
abbrev pub is_alive : Settings → List Item → Pass → List ℕ → State → Bool
is_alive params items pass earlier state = list_all (λ m. nat_le m state.place || not (falls (is_forced params items m) (way_to params items pass m state))) earlier

abbrev pub alive_states : Settings → List Item → Pass → List ℕ → List State → List State
alive_states params items pass earlier states = filter (is_alive params items pass earlier) states

-- the lines to a place, in the order of the states: by place and then by class
abbrev pub ways_at : Settings → List Item → Pass → List ℕ → ℕ → List State → List Way
ways_at params items pass earlier to states = map (way_to params items pass to) (alive_states params items pass earlier states)
