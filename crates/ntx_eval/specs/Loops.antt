-- Loops (Lua 5.3 Reference Manual, sections 3.3.4 and 3.3.5). One step is charged before each test, and before each call of an
-- iterator, which has no other charge. The number of a loop is at least that of the tests that it can still make.
use Rattle.std.specs.Prelude.{ℕ, zero, suc, Bool, if◌then◌else◌, List, [], ◌∷◌, ℤ, pos, ◌+ℤ◌, int_le}
use Rattle.std.specs.Int.{is_negative}
use Rattle.ntx_values.specs.Value.{is_nil}
use Rattle.ntx_values.specs.declared.value.Value.{Value}
use Rattle.ntx_values.specs.declared.value.Value.TheVariants.{Int}
use Rattle.ntx_values.specs.declared.why.LuaWhy.TheVariants.{WrongType, ForStep}
use Rattle.ntx_eval.specs.State.{Flow, onward, broken, returned}
use Rattle.ntx_eval.specs.Ending.{Action, give, fault, out_of_steps, charge, ◌>>=◌, ◌>>◌}
use Rattle.ntx_eval.specs.Operators.{is_true}
use Rattle.ntx_eval.specs.Variables.{Here, bind, first}
use Rattle.ntx_eval.specs.Setting.{Setting}
use Rattle.ntx_eval.specs.Parts.{ExpMeaning, BlockMeaning}

-- what follows a turn: the next one, unless the turn ended in `break` or `return`
abbrev pub unless_left : {S : Type 0} → Flow → Action S Flow → Action S Flow
unless_left onward next = next
unless_left broken next = give onward
unless_left (returned vs) next = give (returned vs)

-- a turn with new local variables
abbrev pub turn : {S : Type 0} → List (List ℕ) → List Value → BlockMeaning S → Here → Action S Flow
turn names vs body here = do
  scope ← bind names vs here.scope
  ended ← body (record { scope = scope; line = here.line })
  give ended.0

-- whether a condition holds
abbrev pub holds : {S : Type 0} → ExpMeaning S → Here → Action S Bool
holds condition here = condition here >>= λ vs. give (is_true (first vs))

-- ---- while and repeat

abbrev pub while_loop : {S : Type 0} → ℕ → ExpMeaning S → BlockMeaning S → Here → Action S Flow
while_loop zero condition body here = out_of_steps here.line
while_loop (suc n) condition body here = do
  charge here.line
  goes_on ← holds condition here
  if goes_on then (turn [] [] body here >>= λ flow. unless_left flow (while_loop n condition body here))
      else give onward

-- The condition sees the local variables of the body.
abbrev pub repeat_loop : {S : Type 0} → ℕ → BlockMeaning S → ExpMeaning S → Here → Action S Flow
repeat_loop zero body condition here = do
  ended ← body here
  unless_left ended.0 (out_of_steps here.line)
repeat_loop (suc n) body condition here = do
  ended ← body here
  unless_left ended.0 (charge here.line >> holds condition (record { scope = ended.1; line = here.line })
      >>= λ ends. if ends then give onward else repeat_loop n body condition here)

-- ---- the numeric for

-- Whether a value of the loop is not beyond its limit. The values are numbers of any size, so they never wrap.
abbrev pub is_within_limit : ℤ → ℤ → ℤ → Bool
is_within_limit limit step i = if is_negative step then int_le limit i else int_le i limit

abbrev pub numeric_loop : {S : Type 0} → ℕ → List ℕ → ℤ → ℤ → BlockMeaning S → Here → ℤ → Action S Flow
numeric_loop zero name limit step body here i = out_of_steps here.line
numeric_loop (suc n) name limit step body here i =
    charge here.line >>
    (if is_within_limit limit step i
    then (turn (name ∷ []) (Int i ∷ []) body here >>= λ flow. unless_left flow (numeric_loop n name limit step body here (i +ℤ step)))
    else give onward)

-- All three values are integers, and the step is not 0.
abbrev pub numeric_for : {S : Type 0} → ℕ → List ℕ → Value → Value → Value → BlockMeaning S → Here → Action S Flow
numeric_for n name (Int i) (Int limit) (Int (pos zero)) body here = fault here.line ForStep
numeric_for n name (Int i) (Int limit) (Int step) body here = numeric_loop n name limit step body here i
numeric_for n name _ _ _ body here = fault here.line WrongType

-- ---- the generic for

-- The iterator is called with what is walked and with the first value of the turn before.
abbrev pub generic_loop : {S : Type 0} → Setting S → ℕ → List (List ℕ) → Value → Value → BlockMeaning S → Here → Value → Action S Flow
generic_loop run zero names iterator walked body here control = out_of_steps here.line
generic_loop run (suc n) names iterator walked body here control = do
  charge here.line
  vs ← run.enter iterator (walked ∷ control ∷ []) here.line
  if is_nil (first vs) then give onward
      else (turn names vs body here >>= λ flow. unless_left flow (generic_loop run n names iterator walked body here (first vs)))
