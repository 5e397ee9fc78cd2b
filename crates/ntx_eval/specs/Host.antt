-- The host of a script: the engine that its primitives reach, seen as two stated steps.
--     HostSteps S     what begins a primitive and what resumes it after a call that it asked for
--     World S         the library and a host
--     Does            what an answer says of the states before and after
use Rattle.std.specs.Prelude.{◌≡◌, List, Result, Ok, Err}
use Rattle.ntx_num.specs.declared.answer.NoMemory as memory
use Rattle.ntx_values.specs.State.{StoreState, IsOf, AreOf}
use Rattle.ntx_values.specs.declared.why.LuaWhy.TheVariants.{WrongType}
use Rattle.ntx_values.specs.declared.value.Value.{Value}
use Rattle.ntx_values.specs.declared.primitive.Primitive.{Primitive}
use Rattle.ntx_eval.specs.Library.{Library}
use Rattle.ntx_eval.specs.declared.host.HostStep.{HostStep}
use Rattle.ntx_eval.specs.declared.host.HostStep.TheVariants as step

-- a step answers, and changes the host's state and the store
abbrev pub Answered : Type 0 → Type 0
Answered S = HostStep × S × StoreState

pub record HostSteps (S : Type 0) : Type 0 where
  pub begin : Primitive → List Value → S → StoreState → Answered S
  pub resume : List Value → S → StoreState → Answered S

-- a host that has no primitive
abbrev pub no_primitive : {S : Type 0} → S → StoreState → Answered S
no_primitive s store = (step.Fail WrongType, s, store)

-- A call of a host does a step, or memory ran out.
abbrev pub Does : {S : Type 0} → Result HostStep memory.NoMemory → S → StoreState → Answered S → Type 0
Does (Ok answer) host store stated = stated ≡ (answer, host, store)
Does (Err e) host store stated = Unit {0}

-- The values of an answer are of this store.
abbrev pub StepIsOf : StoreState → HostStep → Type 0
StepIsOf store (step.Done vs) = AreOf store vs
StepIsOf store (step.Call f args) = IsOf store f × AreOf store args
StepIsOf store (step.Fail why) = Unit {0}

pub record World (S : Type 0) : Type 0 where
  pub library : Library
  pub host : HostSteps S
