-- How a part of a script ends, and how parts follow one another. A part that does not stop gives a value. The state after it is
-- there however it ends.
--     Ending S A       a value or why the script stopped, and the state after
--     Action S A       what a part does: from the state before to its ending
--     fault line why   a fault of the script: the one word by which it stops for a reason of its own
--     charge line      one step is paid for
use Rattle.std.specs.Prelude.{ℕ, zero, suc, Result, Ok, Err}
use Rattle.ntx_values.specs.declared.why.LuaWhy.{LuaWhy}
use Rattle.ntx_eval.specs.State.{State}
use Rattle.ntx_eval.specs.declared.stop.ScriptStop.{ScriptStop}
use Rattle.ntx_eval.specs.declared.stop.ScriptStop.TheVariants.{Fault, Budget}

infixl 10 ◌>>=◌
infixl 10 ◌>>◌
abbrev pub Ending : Type 0 → Type 0 → Type 0
Ending S A = Result A ScriptStop × State S

abbrev pub Action : Type 0 → Type 0 → Type 0
Action S A = State S → Ending S A

-- a value, and the state as it was
abbrev pub give : {S A : Type 0} → A → Action S A
give a s = (Ok a, s)

-- the script stops
abbrev pub stop : {S A : Type 0} → ScriptStop → Action S A
stop why s = (Err why, s)

-- what follows an ending
abbrev pub after : {S A B : Type 0} → Ending S A → (A → Action S B) → Ending S B
after (Ok a, s) next = next a s
after (Err why, s) next = (Err why, s)

-- One action, and then another that knows the value of the first.
abbrev pub ◌>>=◌ : {S A B : Type 0} → Action S A → (A → Action S B) → Action S B
◌>>=◌ first next s = after (first s) next

-- The same of one that does not look at it.
abbrev pub ◌>>◌ : {S A B : Type 0} → Action S A → Action S B → Action S B
◌>>◌ first next s = after (first s) (λ _. next)

abbrev pub fault : {S A : Type 0} → ℕ → LuaWhy → Action S A
fault line why = stop (Fault (record { line = line; why = why }))

-- no step is left
abbrev pub out_of_steps : {S A : Type 0} → ℕ → Action S A
out_of_steps line = stop (Budget line)

abbrev pub charge : {S : Type 0} → ℕ → Action S (Unit {0})
charge {S} line s = paid s.charges
  where
    paid : ℕ → Ending S (Unit {0})
    paid zero = out_of_steps line s
    paid (suc left) = give tt (record s { charges = left })
