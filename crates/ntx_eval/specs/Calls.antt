-- Calls (Lua 5.3 Reference Manual, sections 3.4.10 and 3.4.11), and what is done with a script as a whole.
--     enter_at bodies world most level f args line     what a call does once it was paid for, with `level` functions of the script active
--     run_chunk, call_function, drive     a script's chunk; a call from outside it; a host's step followed to its values
use Rattle.std.specs.Prelude.{ℕ, zero, suc, nat_lt, if◌then◌else◌, List, [], slice_get, Option, Some, None}
use Rattle.ntx_syntax.specs.declared.tree.Chunk.{Chunk}
use Rattle.ntx_syntax.specs.declared.tree.FunctionBody.{FunctionBody, roll-FunctionBody}
use Rattle.ntx_values.specs.declared.value.Value.{Value}
use Rattle.ntx_values.specs.declared.value.Value.TheVariants as value
use Rattle.ntx_values.specs.declared.primitive.Primitive.TheVariants as primitive
use Rattle.ntx_values.specs.declared.why.LuaWhy.TheVariants.{WrongType, Levels}
use Rattle.ntx_eval.specs.State.{Function}
use Rattle.ntx_eval.specs.Ending.{Action, give, fault, out_of_steps, ◌>>=◌, ◌>>◌}
use Rattle.ntx_eval.specs.Host.{World}
use Rattle.ntx_eval.specs.Setting.{Setting, call, library_call, host_call, follow}
use Rattle.ntx_eval.specs.Parts.{BodyMeaning}
use Rattle.ntx_eval.specs.Meaning.{body_meaning}
use Rattle.ntx_eval.specs.declared.host.HostStep.{HostStep}

-- as many functions of the script may be active
abbrev pub max_levels : ℕ
max_levels = 200

abbrev pub function_at : {S : Type 0} → ℕ → Action S (Option Function)
function_at number s = give (slice_get s.functions number) s

-- what a body does in a setting
abbrev pub Bodies : Type 0 → Type 0
Bodies S = Setting S → FunctionBody → BodyMeaning S

-- A function's body is run in the scope in which the function was made.
abbrev pub run_function : {S : Type 0} → (FunctionBody → BodyMeaning S) → Option Function → List Value → ℕ → Action S (List Value)
run_function run None args line = fault line WrongType
run_function run (Some f) args line = run f.body args f.scope line

-- what is called; `run` runs a body of the script
abbrev pub enter_value : {S : Type 0} → Setting S → (FunctionBody → BodyMeaning S) → ℕ → Value → List Value → ℕ → Action S (List Value)
enter_value outer run level (value.Function f) args line =
    if nat_lt level max_levels then (function_at f.number >>= λ function. run_function run function args line)
    else fault line Levels
enter_value outer run level (value.Prim (primitive.Lib f)) args line = library_call outer.world f args line
enter_value outer run level (value.Prim p) args line = host_call outer p args line
enter_value outer run level _ args line = fault line WrongType

-- Once a call was paid for, fewer charges are left than before: so many at most are given to what it runs.
abbrev pub enter_at : {S : Type 0} → Bodies S → World S → ℕ → ℕ → Value → List Value → ℕ → Action S (List Value)
enter_at bodies world zero level f args line = out_of_steps line
enter_at bodies world (suc most) level f args line =
    enter_value
    (record { world = world; most = most; enter = enter_at bodies world most level })
    (bodies (record { world = world; most = most; enter = enter_at bodies world most (suc level) }))
    level f args line

-- the setting at a level, for at most so many charges
abbrev pub setting : {S : Type 0} → Bodies S → World S → ℕ → ℕ → Setting S
setting bodies world most level = record { world = world; most = most; enter = enter_at bodies world most level }

-- What stands outside all functions of a script is at level 0. It has as many charges as are left.
abbrev pub outside : {S A : Type 0} → Bodies S → World S → (Setting S → Action S A) → Action S A
outside bodies world action s = action (setting bodies world s.charges 0) s

-- A chunk is a function's body with no parameters.
abbrev pub body_of : Chunk → FunctionBody
body_of chunk = roll-FunctionBody (record { parameters = []; block = chunk.block })

-- The chunk is no call, and what it returns is dropped.
abbrev pub run_chunk : {S : Type 0} → World S → Chunk → Action S (Unit {0})
run_chunk world chunk = outside body_meaning world (λ run. body_meaning run (body_of chunk) [] [] 0 >> give tt)

abbrev pub call_function : {S : Type 0} → World S → Value → List Value → Action S (List Value)
call_function world f args = outside body_meaning world (λ run. call run f args 0)

abbrev pub drive : {S : Type 0} → World S → HostStep → Action S (List Value)
drive world step = outside body_meaning world (λ run. follow run step 0)
