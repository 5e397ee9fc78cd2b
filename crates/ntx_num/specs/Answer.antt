-- What an answer says: the words in which contracts tie a call to the function or the machine that defines it.
--     Gives, Answers      a call that changes nothing and gives the value of a stated function
--     Steps, StepsAtOnce  a call that is one step of a stated machine
--     Traces              a call that goes through several states and may stop among them
--     result_map, result_and_then      as Rust's `map` and `and_then`: an answer with its value seen in another way; one answer after another
-- Out of memory is the one answer that no definition predicts: each word says what stands after it.
use Rattle.std.specs.Prelude.{◌≡◌, List, ◌∷◌, [], ◌++◌, Contains, Result, Ok, Err}
use Rattle.ntx_num.specs.declared.answer.Fail.{Fail}
use Rattle.ntx_num.specs.declared.answer.Fail.TheVariants.{NoMemory, Is}
use Rattle.ntx_num.specs.declared.answer.NoMemory as memory

abbrev pub result_map : {A B E : Type 0} → (A → B) → Result A E → Result B E
result_map f (Ok a) = Ok (f a)
result_map f (Err e) = Err e

abbrev pub result_and_then : {A B E : Type 0} → Result A E → (A → Result B E) → Result B E
result_and_then (Ok a) f = f a
result_and_then (Err e) f = Err e

-- The call gives this value, or memory ran out.
abbrev pub Gives : {A : Type 0} → Result A memory.NoMemory → A → Type 0
Gives (Ok a) value = a ≡ value
Gives (Err e) value = Unit {0}

-- The call gives this value or makes this refusal, or memory ran out.
abbrev pub Answers : {A E : Type 0} → Result A (Fail E) → Result A E → Type 0
Answers (Ok a) answer = answer ≡ Ok a
Answers (Err (Is e)) answer = answer ≡ Err e
Answers (Err NoMemory) answer = Unit {0}

-- The call gives what the step gives: its value and the new state, or its refusal and the old state. Running out of memory changes nothing.
abbrev pub Steps : {S A E : Type 0} → Result A (Fail E) → S → S → Result (A × S) E → Type 0
Steps (Ok a) old new step = step ≡ Ok (a, new)
Steps (Err (Is e)) old new step = (step ≡ Err e) × (new ≡ old)
Steps (Err NoMemory) old new step = new ≡ old

-- The same of a call that takes no memory.
abbrev pub StepsAtOnce : {S A E : Type 0} → Result A E → S → S → Result (A × S) E → Type 0
StepsAtOnce (Ok a) old new step = step ≡ Ok (a, new)
StepsAtOnce (Err e) old new step = (step ≡ Err e) × (new ≡ old)

-- The last state of a pass.
abbrev pub EndsIn : {S : Type 0} → List S → S → Type 0
EndsIn {S} states last = (before : List S) × (states ≡ before ++ last ∷ [])

-- The call goes through these states, the first before any step, and ends with this value or refusal in the last of them. Where
-- memory ran out it stopped in one of them.
abbrev pub Traces : {S A E : Type 0} → Result A (Fail E) → S → List S → Result A E → Type 0
Traces (Ok a) new states ending = (ending ≡ Ok a) × EndsIn states new
Traces (Err (Is e)) new states ending = (ending ≡ Err e) × EndsIn states new
Traces (Err NoMemory) new states ending = Contains states new
