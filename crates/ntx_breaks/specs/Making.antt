-- How states are made at a place ("TeX: The Program", sections 835 to 855).
--     is_rescued pass forced ways       the artificial rule: in the final pass, if each state would end at this place, and none but the last has a line that is wanted, the
--                                       last one has its line without demerits, however bad it is
--     candidates_at                     the states that may be made: one for each line that is wanted
--     least_of candidates               the one with the least total, the last of equal ones
--     add_states params candidates states      for each class the least candidate, if it is not worse than the least of all by more than the absolute value of adjdemerits
use Rattle.std.specs.Prelude.{ℕ, ◌-◌, nat_eq, nat_lt, ℤ, pos, ◌+ℤ◌, int_lt, int_le, unsigned_abs, Bool, ◌&&◌, not, if◌then◌else◌, Option, Some, None, List, [], ◌∷◌, ◌++◌, length, take, drop, map}
use Rattle.std.specs.List.{filter, fold, list_all, list_any}
use Rattle.ntx_item.specs.declared.item.Item.{Item}
use Rattle.ntx_item.specs.Settings.{Settings}
use Rattle.ntx_breaks.specs.declared.pass.Pass.{Pass}
use Rattle.ntx_breaks.specs.declared.state.State.{State}
use Rattle.ntx_breaks.specs.declared.way.Way.{Way}
use Rattle.ntx_breaks.specs.Cost.{line_cost}
use Rattle.ntx_breaks.specs.States.{falls, is_wanted}

-- ---- the artificial rule

abbrev pub last_way : List Way → List Way
last_way ways = drop (length ways - 1) ways

abbrev pub ways_before_last : List Way → List Way
ways_before_last ways = take (length ways - 1) ways

abbrev pub is_rescued : Pass → Bool → List Way → Bool
is_rescued pass forced ways =
    pass.is_final && nat_lt 0 (length ways) && list_all (falls forced) ways && not (list_any (is_wanted pass) (ways_before_last ways))

-- ---- candidates

-- the state at the end of a line that adds these demerits
abbrev pub candidate : ℕ → Way → ℤ → State
candidate to way demerits = record { number = 0; place = to; class = way.line.class; total = way.from.total +ℤ demerits; before = way.from.number }

abbrev pub paid : Settings → List Item → ℕ → Way → State
paid params items to way = candidate to way (line_cost params items way.from.place way.from.class to way.line)

abbrev pub free : ℕ → Way → State
free to way = candidate to way (pos 0)

abbrev pub candidates_at : Settings → List Item → Pass → ℕ → Bool → List Way → List State
candidates_at params items pass to rescued ways =
    if rescued then map (free to) (last_way ways) else map (paid params items to) (filter (is_wanted pass) ways)

-- ---- the states that are made

-- the later one of equal ones
abbrev pub lesser : Option State → State → Option State
lesser None state = Some state
lesser (Some best) state = if int_lt best.total state.total then Some best else Some state

abbrev pub least_of : List State → Option State
least_of candidates = fold lesser None candidates

abbrev pub of_class : ℕ → List State → List State
of_class class candidates = filter (λ (s : State). nat_eq s.class class) candidates

-- the state with its number: states are counted from 0
abbrev pub push_state : List State → State → List State
push_state states state = states ++ record state { number = length states } ∷ []

abbrev pub push_within : ℤ → List State → Option State → List State
push_within most states None = states
push_within most states (Some state) = if int_le state.total most then push_state states state else states

abbrev pub add_class : ℤ → List State → ℕ → List State → List State
add_class most candidates class states = push_within most states (least_of (of_class class candidates))

abbrev pub add_within : ℤ → List State → List State → List State
add_within most candidates states = add_class most candidates 3 (add_class most candidates 2 (add_class most candidates 1 (add_class most candidates 0 states)))

-- the greatest total of a state that is made, if this is the least one
abbrev pub most_total : Settings → State → ℤ
most_total params least = least.total +ℤ pos (unsigned_abs params.adjdemerits)

abbrev pub add_near : Settings → List State → Option State → List State → List State
add_near params candidates None states = states
add_near params candidates (Some least) states = add_within (most_total params least) candidates states

abbrev pub add_states : Settings → List State → List State → List State
add_states params candidates states = add_near params candidates (least_of candidates) states
