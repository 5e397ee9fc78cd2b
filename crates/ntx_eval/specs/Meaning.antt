-- The meaning of a function's body as a tree: each construct does what its layer says, over the meanings of its parts.
use Rattle.ntx_syntax.specs.declared.tree.Exp.{map-Exp}
use Rattle.ntx_syntax.specs.declared.tree.Field.{map-Field}
use Rattle.ntx_syntax.specs.declared.tree.Head.{map-Head}
use Rattle.ntx_syntax.specs.declared.tree.StatKind.{map-StatKind}
use Rattle.ntx_syntax.specs.declared.tree.Suffix.{map-Suffix}
use Rattle.ntx_syntax.specs.declared.tree.Var.{map-Var}
use Rattle.ntx_syntax.specs.declared.tree.Block.{map-Block}
use Rattle.ntx_syntax.specs.declared.tree.Call.{map-Call}
use Rattle.ntx_syntax.specs.declared.tree.FunctionBody.{FunctionBody, map-FunctionBody, para-FunctionBody}
use Rattle.ntx_syntax.specs.declared.tree.IfArm.{map-IfArm}
use Rattle.ntx_syntax.specs.declared.tree.Operation.{map-Operation}
use Rattle.ntx_syntax.specs.declared.tree.Prefix.{map-Prefix}
use Rattle.ntx_syntax.specs.declared.tree.Return.{map-Return}
use Rattle.ntx_syntax.specs.declared.tree.Stat.{map-Stat}
use Rattle.ntx_syntax.specs.declared.tree.Exp.TheOpen.{Exp-F, Field-F, Head-F, StatKind-F, Suffix-F, Var-F, Block-F, Call-F, FunctionBody-F, IfArm-F, Operation-F, Prefix-F, Return-F, Stat-F}
use Rattle.ntx_eval.specs.Setting.{Setting}
use Rattle.ntx_eval.specs.Parts.{ExpMeaning, FieldMeaning, KindMeaning, SuffixMeaning, VarMeaning, BlockMeaning, BodyMeaning, ArmMeaning, OperationMeaning, ReturnMeaning, StatMeaning}
use Rattle.ntx_eval.specs.Trees.{meanings}
use Rattle.ntx_eval.specs.Expressions.{exp_layer, field_layer, head_layer, suffix_layer, call_layer, prefix_layer}
use Rattle.ntx_eval.specs.Statements.{kind_layer, var_layer, arm_layer, operation_layer}
use Rattle.ntx_eval.specs.Blocks.{block_layer, body_layer, return_layer, stat_layer}

abbrev pub body_meaning : {S : Type 0} → Setting S → FunctionBody → BodyMeaning S
body_meaning {S} run =
    para-FunctionBody (ExpMeaning S) (FieldMeaning S) (ExpMeaning S) (KindMeaning S) (SuffixMeaning S) (VarMeaning S) (BlockMeaning S)
    (ExpMeaning S) (BodyMeaning S) (ArmMeaning S) (OperationMeaning S) (ExpMeaning S) (ReturnMeaning S) (StatMeaning S)
    (λ p. exp_layer (meanings Exp-F map-Exp p)) (λ p. field_layer run (meanings Field-F map-Field p)) (λ p. head_layer (meanings Head-F map-Head p))
    (λ p. kind_layer run (meanings StatKind-F map-StatKind p)) (λ p. suffix_layer run (meanings Suffix-F map-Suffix p)) (λ p. var_layer (meanings Var-F map-Var p))
    (λ p. block_layer (meanings Block-F map-Block p)) (λ p. call_layer run (meanings Call-F map-Call p)) (λ p. body_layer (meanings FunctionBody-F map-FunctionBody p))
    (λ p. arm_layer (meanings IfArm-F map-IfArm p)) (λ p. operation_layer (meanings Operation-F map-Operation p)) (λ p. prefix_layer (meanings Prefix-F map-Prefix p))
    (λ p. return_layer (meanings Return-F map-Return p)) (λ p. stat_layer (meanings Stat-F map-Stat p))
