-- What statements do, from what their parts do (Lua 5.3 Reference Manual, section 3.3).
use Rattle.std.specs.Prelude.{ℕ, if◌then◌else◌, List, [], ◌∷◌, map, pos, Option, Some, None}
use Rattle.ntx_syntax.specs.declared.tree.LocalName.{LocalName}
use Rattle.ntx_syntax.specs.declared.tree.FunctionBody.{FunctionBody}
use Rattle.ntx_syntax.specs.declared.tree.Exp.TheOpen.{IfArm-F, Operation-F, StatKind-F, Var-F}
use Rattle.ntx_values.specs.declared.value.Value.{Value}
use Rattle.ntx_values.specs.declared.value.Value.TheVariants.{Nil, Int}
use Rattle.ntx_eval.specs.State.{Scope, Flow, onward, broken}
use Rattle.ntx_eval.specs.Ending.{Action, give, ◌>>=◌, ◌>>◌}
use Rattle.ntx_eval.specs.Variables.{Here, bind, text, read_name, write_name, write_cell, new_cell, first, others}
use Rattle.ntx_eval.specs.Setting.{Setting}
use Rattle.ntx_eval.specs.Fields.{read_field, write_field}
use Rattle.ntx_eval.specs.Parts.{Of, ExpMeaning, VarMeaning, BlockMeaning, KindMeaning, ArmMeaning, OperationMeaning, Place, named, field}
use Rattle.ntx_eval.specs.Expressions.{all_values, first_of, new_function}
use Rattle.ntx_eval.specs.Loops.{while_loop, repeat_loop, numeric_for, generic_loop, holds}

abbrev pub names_of : List LocalName → List (List ℕ)
names_of names = map (λ n. n.name) names

-- The names that a statement declares in itself are not seen after it.
abbrev pub within : {S : Type 0} → Here → Action S Flow → Action S (Flow × Scope)
within here action = action >>= λ flow. give (flow, here.scope)

abbrev pub block_in : {S : Type 0} → BlockMeaning S → Here → Action S Flow
block_in block here = block here >>= λ ended. give ended.0

-- ---- assignment

abbrev pub find_all : {S : Type 0} → List (VarMeaning S) → Here → Action S (List Place)
find_all [] here = give []
find_all (m ∷ ms) here = do
  place ← m here
  places ← find_all ms here
  give (place ∷ places)

abbrev pub assign : {S : Type 0} → Setting S → Place → Value → Here → Action S (Unit {0})
assign run (named name) v here = write_name name v here
assign run (field t key) v here = write_field run t key v here.line

-- Each place gets a value, from the left.
abbrev pub assign_all : {S : Type 0} → Setting S → List Place → List Value → Here → Action S (Unit {0})
assign_all run [] vs here = give tt
assign_all run (place ∷ places) vs here = assign run place (first vs) here >> assign_all run places (others vs) here

-- The variable of `function a.b.c`: the last name is a field of what the others reach.
abbrev pub reach : {S : Type 0} → Setting S → Value → List ℕ → List (List ℕ) → Here → Action S Place
reach run v name [] here = text name here.line >>= λ key. give (field v key)
reach run v name (next ∷ path) here = do
  key ← text name here.line
  inner ← read_field run v key here.line
  reach run inner next path here

abbrev pub function_place : {S : Type 0} → Setting S → List ℕ → List (List ℕ) → Here → Action S Place
function_place run name [] here = give (named name)
function_place run name (next ∷ path) here = read_name name here >>= λ v. reach run v next path here

abbrev pub var_layer : {S : Type 0} → Of S Var-F → VarMeaning S
var_layer (Var-F.Var::Name name) here = give (named name)
var_layer (Var-F.Var::Index m key) here = do
  t ← first_of (m here)
  k ← first_of (key here)
  give (field t k)
var_layer (Var-F.Var::Field m name) here = do
  t ← first_of (m here)
  k ← text name here.line
  give (field t k)

-- ---- choice

-- the block of the first arm whose condition holds, and else the block of `else`
abbrev pub choose : {S : Type 0} → List (ArmMeaning S) → Option (BlockMeaning S) → Here → Action S Flow
choose [] None here = give onward
choose [] (Some block) here = block_in block here
choose (arm ∷ arms) otherwise here = holds arm.0 here >>= λ it_holds. if it_holds then block_in arm.1 here else choose arms otherwise here

-- ---- each statement

-- a step that is not written is 1
abbrev pub step_of : {S : Type 0} → Option (ExpMeaning S) → Here → Action S Value
step_of None here = give (Int (pos 1))
step_of (Some m) here = first_of (m here)

-- the local variable is seen in the function's body
abbrev pub local_function : {S : Type 0} → List ℕ → FunctionBody → Here → Action S (Flow × Scope)
local_function name body here = do
  cell ← new_cell Nil
  f ← new_function body ((name, cell) ∷ here.scope)
  write_cell cell f
  give (onward, (name, cell) ∷ here.scope)

abbrev pub kind_layer : {S : Type 0} → Setting S → Of S StatKind-F → KindMeaning S
kind_layer run StatKind-F.Empty = None
kind_layer run (StatKind-F.Assign vars exps) = Some (λ here. within here (do
  places ← find_all vars here
  vs ← all_values exps here
  assign_all run places vs here
  give onward))
kind_layer run (StatKind-F.StatKind::Call m) = Some (λ here. within here (m here >> give onward))
kind_layer run StatKind-F.Break = Some (λ here. within here (give broken))
kind_layer run (StatKind-F.Do block) = Some (λ here. within here (block_in block here))
kind_layer run (StatKind-F.While condition block) = Some (λ here. within here (while_loop run.most condition block here))
kind_layer run (StatKind-F.Repeat block condition) = Some (λ here. within here (repeat_loop run.most block condition here))
kind_layer run (StatKind-F.If arms otherwise) = Some (λ here. within here (choose arms otherwise here))
kind_layer run (StatKind-F.NumericFor name start limit step block) = Some (λ here. within here (do
  i ← first_of (start here)
  last ← first_of (limit here)
  by ← step_of step here
  numeric_for run.most name.name i last by block here))
kind_layer run (StatKind-F.GenericFor names exps block) = Some (λ here. within here (do
  vs ← all_values exps here
  generic_loop run run.most (names_of names) (first vs) (first (others vs)) block here (first (others (others vs)))))
kind_layer run (StatKind-F.StatKind::Function name path body) = Some (λ here. within here (do
  place ← function_place run name path here
  f ← new_function body.0 here.scope
  assign run place f here
  give onward))
kind_layer run (StatKind-F.LocalFunction name body) = Some (local_function name.name body.0)
kind_layer run (StatKind-F.Local names exps) = Some (λ here. do
  vs ← all_values exps here
  scope ← bind (names_of names) vs here.scope
  give (onward, scope))

abbrev pub arm_layer : {S : Type 0} → Of S IfArm-F → ArmMeaning S
arm_layer arm = (arm.condition, arm.block)

abbrev pub operation_layer : {S : Type 0} → Of S Operation-F → OperationMeaning S
operation_layer o = (o.operator, o.operand)
