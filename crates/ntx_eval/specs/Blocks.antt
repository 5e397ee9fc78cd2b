-- What statements, `return`, blocks and bodies of functions do (Lua 5.3 Reference Manual, sections 3.3.1, 3.3.4 and 3.4.11).
use Rattle.std.specs.Prelude.{List, [], ◌∷◌, Option, Some, None}
use Rattle.ntx_syntax.specs.declared.tree.Exp.TheOpen.{Block-F, FunctionBody-F, Return-F, Stat-F}
use Rattle.ntx_values.specs.declared.value.Value.{Value}
use Rattle.ntx_eval.specs.State.{Scope, Flow, onward, broken, returned}
use Rattle.ntx_eval.specs.Ending.{Action, give, charge, ◌>>=◌, ◌>>◌}
use Rattle.ntx_eval.specs.Variables.{Here, bind}
use Rattle.ntx_eval.specs.Parts.{Of, BlockMeaning, StatMeaning, KindMeaning, ReturnMeaning, BodyMeaning}
use Rattle.ntx_eval.specs.Expressions.{all_values}
use Rattle.ntx_eval.specs.Statements.{names_of}

-- One step is charged at a statement that begins, and none at `;`.
abbrev pub begun : {S : Type 0} → KindMeaning S → Here → Action S (Flow × Scope)
begun None here = give (onward, here.scope)
begun (Some m) here = charge here.line >> m here

abbrev pub stat_layer : {S : Type 0} → Of S Stat-F → StatMeaning S
stat_layer stat scope = begun stat.kind (record { scope = scope; line = stat.line })

abbrev pub return_layer : {S : Type 0} → Of S Return-F → ReturnMeaning S
return_layer r scope = do
  charge r.line
  vs ← all_values r.values (record { scope = scope; line = r.line })
  give (returned vs)

-- the end of a block
abbrev pub at_end : {S : Type 0} → Option (ReturnMeaning S) → Scope → Action S (Flow × Scope)
at_end None scope = give (onward, scope)
at_end (Some m) scope = m scope >>= λ flow. give (flow, scope)

-- what follows a statement in its block: the next one, unless it ended in `break` or `return`
abbrev pub then_next : {S : Type 0} → Flow × Scope → (Scope → Action S (Flow × Scope)) → Action S (Flow × Scope)
then_next (onward, scope) next = next scope
then_next (broken, scope) next = give (broken, scope)
then_next (returned vs, scope) next = give (returned vs, scope)

-- Each statement sees the names that those before it declare.
abbrev pub in_turn : {S : Type 0} → List (StatMeaning S) → Option (ReturnMeaning S) → Scope → Action S (Flow × Scope)
in_turn [] last scope = at_end last scope
in_turn (m ∷ ms) last scope = m scope >>= λ ended. then_next ended (in_turn ms last)

abbrev pub block_layer : {S : Type 0} → Of S Block-F → BlockMeaning S
block_layer block here = in_turn block.stats block.last here.scope

-- what a function gives: the values of its `return`, and none without one
abbrev pub results_of : Flow → List Value
results_of onward = []
results_of broken = []
results_of (returned vs) = vs

-- The parameters are new local variables.
abbrev pub body_layer : {S : Type 0} → Of S FunctionBody-F → BodyMeaning S
body_layer body args scope line = do
  inner ← bind (names_of body.parameters) args scope
  ended ← body.block (record { scope = inner; line = line })
  give (results_of ended.0)
