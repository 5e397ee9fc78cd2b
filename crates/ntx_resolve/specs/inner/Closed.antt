-- What is resolved in a scope of its own.
--     IsClosed     a block whose names are in scope in it alone
--     HasBody      a function that is made in this scope
--     IsArm        an arm of an `if`
use Rattle.std.specs.Prelude.{◌≡◌, List}
use Rattle.ntx_syntax.specs.declared.tree.Block as tree-block
use Rattle.ntx_syntax.specs.declared.tree.FunctionBody.{FunctionBody, out-FunctionBody}
use Rattle.ntx_syntax.specs.declared.tree.IfArm as tree-arm
use Rattle.ntx_resolve.specs.declared.code.Block.{Block}
use Rattle.ntx_resolve.specs.declared.code.Function.{Function}
use Rattle.ntx_resolve.specs.declared.code.IfArm.{IfArm, out-IfArm}
use Rattle.ntx_resolve.specs.Scopes.{Scope, declare, enter}
use Rattle.ntx_resolve.specs.HasCode.{IsBlock, IsExp}

abbrev pub IsClosed : List Function → Scope → tree-block.Block → Block → Type 0
IsClosed all s b c = (after : Scope) × IsBlock all s b c after

abbrev pub HasBody : List Function → Scope → FunctionBody → Function → Type 0
HasBody all s body f =
    (f.parameters ≡ (out-FunctionBody body).parameters) × IsClosed all (declare (enter s) (out-FunctionBody body).parameters) (out-FunctionBody body).block f.block

abbrev pub IsArm : List Function → Scope → tree-arm.IfArm → IfArm → Type 0
IsArm all s a c = IsExp all s (tree-arm.out-IfArm a).condition (out-IfArm c).condition × IsClosed all s (tree-arm.out-IfArm a).block (out-IfArm c).block
