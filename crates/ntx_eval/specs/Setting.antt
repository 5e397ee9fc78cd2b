-- What a part of a script is given: the library, the host and how functions are entered. Calls, and the steps of the host that may
-- ask for calls, are what it does with them.
--     call f args line      one step is charged, and then the function is entered
--     follow step line      a host's step up to its values, with each call that it asks for
use Rattle.std.specs.Prelude.{ℕ, zero, suc, List, Result, Ok, Err}
use Rattle.ntx_values.specs.State.{StoreState}
use Rattle.ntx_values.specs.declared.value.Value.{Value}
use Rattle.ntx_values.specs.declared.primitive.Primitive.{Primitive}
use Rattle.ntx_values.specs.declared.primitive.LibFn.{LibFn}
use Rattle.ntx_values.specs.declared.why.LuaWhy.{LuaWhy}
use Rattle.ntx_eval.specs.Library.{LibState}
use Rattle.ntx_eval.specs.Host.{Answered, World}
use Rattle.ntx_eval.specs.Ending.{Action, Ending, give, stop, fault, out_of_steps, charge, ◌>>=◌, ◌>>◌}
use Rattle.ntx_eval.specs.declared.host.HostStep.{HostStep}
use Rattle.ntx_eval.specs.declared.host.HostStep.TheVariants as step
use Rattle.ntx_eval.specs.declared.stop.ScriptStop.TheVariants as stopped

-- `most` is at least the number of charges left. `enter` does what a call does once it was paid for.
pub record Setting (S : Type 0) : Type 0 where
  pub world : World S
  pub most : ℕ
  pub enter : Value → List Value → ℕ → Action S (List Value)

abbrev pub call : {S : Type 0} → Setting S → Value → List Value → ℕ → Action S (List Value)
call run f args line = charge line >> run.enter f args line

-- a call of the library
abbrev pub library_call : {S : Type 0} → World S → LibFn → List Value → ℕ → Action S (List Value)
library_call {S} world f args line s = made (world.library f args (s.store, s.printed))
  where
    made : Result (List Value × LibState) LuaWhy → Ending S (List Value)
    made (Ok (vs, (store, printed))) = give vs (record s { store = store; printed = printed })
    made (Err why) = fault line why s

-- what a host answers, with its state and the store after
abbrev pub answered : {S : Type 0} → (S → StoreState → Answered S) → Action S HostStep
answered {S} asked s = made (asked s.host s.store)
  where
    made : Answered S → Ending S HostStep
    made (answer, host, store) = give answer (record s { host = host; store = store })

-- A host fails outside the chunk and all functions of the script if no statement runs.
abbrev pub host_fault : {S A : Type 0} → LuaWhy → ℕ → Action S A
host_fault why zero = stop (stopped.Host why)
host_fault why (suc line) = fault (suc line) why

-- The number is at least that of the calls that the host can still ask for, since each is charged.
abbrev pub follow_at_most : {S : Type 0} → Setting S → ℕ → HostStep → ℕ → Action S (List Value)
follow_at_most run n (step.Done vs) line = give vs
follow_at_most run n (step.Fail why) line = host_fault why line
follow_at_most run zero (step.Call f args) line = out_of_steps line
follow_at_most run (suc n) (step.Call f args) line = do
  vs ← call run f args line
  next ← answered (run.world.host.resume vs)
  follow_at_most run n next line

abbrev pub follow : {S : Type 0} → Setting S → HostStep → ℕ → Action S (List Value)
follow run answer line = follow_at_most run run.most answer line

-- a primitive of the host, from its begin to its values
abbrev pub host_call : {S : Type 0} → Setting S → Primitive → List Value → ℕ → Action S (List Value)
host_call run primitive args line = answered (run.world.host.begin primitive args) >>= λ answer. follow run answer line
