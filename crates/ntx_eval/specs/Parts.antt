-- What the meaning of each construct is, as a type, and the layers of the tree with a meaning in the place of each part.
--     ExpMeaning S ..      what an expression does, a field of a table, and so on
--     Of S F               a layer F of the tree over the meanings of its parts
use Rattle.std.specs.Prelude.{ℕ, Bool, List, Option}
use Rattle.ntx_syntax.specs.declared.tree.BinaryOp.{BinaryOp}
use Rattle.ntx_syntax.specs.declared.tree.FunctionBody.{FunctionBody}
use Rattle.ntx_values.specs.declared.value.Value.{Value}
use Rattle.ntx_values.specs.declared.value.TableId.{TableId}
use Rattle.ntx_eval.specs.State.{Scope, Flow}
use Rattle.ntx_eval.specs.Ending.{Action}
use Rattle.ntx_eval.specs.Variables.{Here}

-- An expression gives values. So do a call, a prefix and its head.
abbrev pub ExpMeaning : Type 0 → Type 0
ExpMeaning S = Here → Action S (List Value)

-- What stands after a prefix is applied to the value before it.
abbrev pub SuffixMeaning : Type 0 → Type 0
SuffixMeaning S = Value → ExpMeaning S

-- A field is set in a table. The number is that of the next value without a key, and the truth value says whether the field is the
-- last. It gives the number after it.
abbrev pub FieldMeaning : Type 0 → Type 0
FieldMeaning S = TableId → ℕ → Bool → Here → Action S ℕ

-- A variable is found first and assigned to later: a name, or a field of a value.
pub data Place : Type 0 where
  named : List ℕ → Place
  field : Value → Value → Place

abbrev pub VarMeaning : Type 0 → Type 0
VarMeaning S = Here → Action S Place

-- A block and a statement give the names that are seen at their end.
abbrev pub BlockMeaning : Type 0 → Type 0
BlockMeaning S = Here → Action S (Flow × Scope)

-- A statement has its own line, and `;` does nothing.
abbrev pub StatMeaning : Type 0 → Type 0
StatMeaning S = Scope → Action S (Flow × Scope)

abbrev pub KindMeaning : Type 0 → Type 0
KindMeaning S = Option (BlockMeaning S)

abbrev pub ReturnMeaning : Type 0 → Type 0
ReturnMeaning S = Scope → Action S Flow

-- an arm of `if`: its condition and its block
abbrev pub ArmMeaning : Type 0 → Type 0
ArmMeaning S = ExpMeaning S × BlockMeaning S

-- an operator and the operand after it
abbrev pub OperationMeaning : Type 0 → Type 0
OperationMeaning S = BinaryOp × ExpMeaning S

-- A body is given the arguments, the scope in which its function was made, and the line of the call.
abbrev pub BodyMeaning : Type 0 → Type 0
BodyMeaning S = List Value → Scope → ℕ → Action S (List Value)

-- The parts stand in the order in which the tree's types are listed: expression, field, head, kind of statement, suffix, variable,
-- block, call, body, arm, operation, prefix, return and statement. A body is there as a tree as well, since functions keep it.
abbrev pub Of : Type 0 → (Type 0 → Type 0 → Type 0 → Type 0 → Type 0 → Type 0 → Type 0 → Type 0 → Type 0 → Type 0 → Type 0 → Type 0 → Type 0 → Type 0 → Type 0) → Type 0
Of S F =
    F (ExpMeaning S) (FieldMeaning S) (ExpMeaning S) (KindMeaning S) (SuffixMeaning S) (VarMeaning S) (BlockMeaning S)
    (ExpMeaning S) (FunctionBody × BodyMeaning S) (ArmMeaning S) (OperationMeaning S) (ExpMeaning S) (ReturnMeaning S) (StatMeaning S)
