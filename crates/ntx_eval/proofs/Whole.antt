-- The meaning of a tree of each type, and what it is at a tree that is made of its layer.
use Rattle.std.proofs.Common.{◌≡◌}
use Rattle.ntx_syntax.specs.declared.tree.Exp.{Exp, map-Exp, para-Exp, para-roll-Exp, roll-Exp}
use Rattle.ntx_syntax.specs.declared.tree.Field.{Field, map-Field, para-Field, para-roll-Field, roll-Field}
use Rattle.ntx_syntax.specs.declared.tree.Head.{Head, map-Head, para-Head, para-roll-Head, roll-Head}
use Rattle.ntx_syntax.specs.declared.tree.StatKind.{StatKind, map-StatKind, para-StatKind, para-roll-StatKind, roll-StatKind}
use Rattle.ntx_syntax.specs.declared.tree.Suffix.{Suffix, map-Suffix, para-Suffix, para-roll-Suffix, roll-Suffix}
use Rattle.ntx_syntax.specs.declared.tree.Var.{Var, map-Var, para-Var, para-roll-Var, roll-Var}
use Rattle.ntx_syntax.specs.declared.tree.Block.{Block, map-Block, para-Block, para-roll-Block, roll-Block}
use Rattle.ntx_syntax.specs.declared.tree.Call.{Call, map-Call, para-Call, para-roll-Call, roll-Call}
use Rattle.ntx_syntax.specs.declared.tree.FunctionBody.{FunctionBody, map-FunctionBody, para-FunctionBody, para-roll-FunctionBody, roll-FunctionBody}
use Rattle.ntx_syntax.specs.declared.tree.IfArm.{IfArm, map-IfArm, para-IfArm, para-roll-IfArm, roll-IfArm}
use Rattle.ntx_syntax.specs.declared.tree.Operation.{Operation, map-Operation, para-Operation, para-roll-Operation, roll-Operation}
use Rattle.ntx_syntax.specs.declared.tree.Prefix.{Prefix, map-Prefix, para-Prefix, para-roll-Prefix, roll-Prefix}
use Rattle.ntx_syntax.specs.declared.tree.Return.{Return, map-Return, para-Return, para-roll-Return, roll-Return}
use Rattle.ntx_syntax.specs.declared.tree.Stat.{Stat, map-Stat, para-Stat, para-roll-Stat, roll-Stat}
use Rattle.ntx_syntax.specs.declared.tree.Exp.TheOpen.{Exp-F, Field-F, Head-F, StatKind-F, Suffix-F, Var-F, Block-F, Call-F, FunctionBody-F, IfArm-F, Operation-F, Prefix-F, Return-F, Stat-F}
use Rattle.ntx_eval.specs.Setting.{Setting}
use Rattle.ntx_eval.specs.Parts.{ExpMeaning, FieldMeaning, KindMeaning, SuffixMeaning, VarMeaning, BlockMeaning, BodyMeaning, ArmMeaning, OperationMeaning, ReturnMeaning, StatMeaning}
use Rattle.ntx_eval.specs.Trees.{Layer, MapOf, With, meanings}
use Rattle.ntx_eval.specs.Expressions.{exp_layer, field_layer, head_layer, suffix_layer, call_layer, prefix_layer}
use Rattle.ntx_eval.specs.Statements.{kind_layer, var_layer, arm_layer, operation_layer}
use Rattle.ntx_eval.specs.Blocks.{block_layer, body_layer, return_layer, stat_layer}

pub record Meanings (S : Type 0) : Type 0 where
  pub exp : Exp → ExpMeaning S
  pub field : Field → FieldMeaning S
  pub head : Head → ExpMeaning S
  pub kind : StatKind → KindMeaning S
  pub suffix : Suffix → SuffixMeaning S
  pub var : Var → VarMeaning S
  pub block : Block → BlockMeaning S
  pub call : Call → ExpMeaning S
  pub body : FunctionBody → BodyMeaning S
  pub arm : IfArm → ArmMeaning S
  pub operation : Operation → OperationMeaning S
  pub prefix : Prefix → ExpMeaning S
  pub ret : Return → ReturnMeaning S
  pub stat : Stat → StatMeaning S

-- a layer of trees, each with its meaning
abbrev pub with_trees : {S : Type 0} (F : Layer) → MapOf F → Meanings S → F Exp Field Head StatKind Suffix Var Block Call FunctionBody IfArm Operation Prefix Return Stat → With S F
with_trees {S} F map m layer =
    map Exp Field Head StatKind Suffix Var Block
    Call FunctionBody IfArm Operation Prefix Return Stat
    (Exp × ExpMeaning S) (Field × FieldMeaning S) (Head × ExpMeaning S) (StatKind × KindMeaning S) (Suffix × SuffixMeaning S) (Var × VarMeaning S) (Block × BlockMeaning S)
    (Call × ExpMeaning S) (FunctionBody × BodyMeaning S) (IfArm × ArmMeaning S) (Operation × OperationMeaning S) (Prefix × ExpMeaning S) (Return × ReturnMeaning S) (Stat × StatMeaning S)
    (λ t. (t, m.exp t)) (λ t. (t, m.field t)) (λ t. (t, m.head t)) (λ t. (t, m.kind t)) (λ t. (t, m.suffix t)) (λ t. (t, m.var t)) (λ t. (t, m.block t))
    (λ t. (t, m.call t)) (λ t. (t, m.body t)) (λ t. (t, m.arm t)) (λ t. (t, m.operation t)) (λ t. (t, m.prefix t)) (λ t. (t, m.ret t)) (λ t. (t, m.stat t)) layer

-- by the recursion over the tree
abbrev pub whole : {S : Type 0} → Setting S → Meanings S
whole {S} run = record {
  exp = para-Exp (ExpMeaning S) (FieldMeaning S) (ExpMeaning S) (KindMeaning S) (SuffixMeaning S) (VarMeaning S) (BlockMeaning S)
      (ExpMeaning S) (BodyMeaning S) (ArmMeaning S) (OperationMeaning S) (ExpMeaning S) (ReturnMeaning S) (StatMeaning S)
      (λ p. exp_layer (meanings Exp-F map-Exp p)) (λ p. field_layer run (meanings Field-F map-Field p)) (λ p. head_layer (meanings Head-F map-Head p))
      (λ p. kind_layer run (meanings StatKind-F map-StatKind p)) (λ p. suffix_layer run (meanings Suffix-F map-Suffix p)) (λ p. var_layer (meanings Var-F map-Var p))
      (λ p. block_layer (meanings Block-F map-Block p)) (λ p. call_layer run (meanings Call-F map-Call p)) (λ p. body_layer (meanings FunctionBody-F map-FunctionBody p))
      (λ p. arm_layer (meanings IfArm-F map-IfArm p)) (λ p. operation_layer (meanings Operation-F map-Operation p)) (λ p. prefix_layer (meanings Prefix-F map-Prefix p))
      (λ p. return_layer (meanings Return-F map-Return p)) (λ p. stat_layer (meanings Stat-F map-Stat p));
  field = para-Field (ExpMeaning S) (FieldMeaning S) (ExpMeaning S) (KindMeaning S) (SuffixMeaning S) (VarMeaning S) (BlockMeaning S)
      (ExpMeaning S) (BodyMeaning S) (ArmMeaning S) (OperationMeaning S) (ExpMeaning S) (ReturnMeaning S) (StatMeaning S)
      (λ p. exp_layer (meanings Exp-F map-Exp p)) (λ p. field_layer run (meanings Field-F map-Field p)) (λ p. head_layer (meanings Head-F map-Head p))
      (λ p. kind_layer run (meanings StatKind-F map-StatKind p)) (λ p. suffix_layer run (meanings Suffix-F map-Suffix p)) (λ p. var_layer (meanings Var-F map-Var p))
      (λ p. block_layer (meanings Block-F map-Block p)) (λ p. call_layer run (meanings Call-F map-Call p)) (λ p. body_layer (meanings FunctionBody-F map-FunctionBody p))
      (λ p. arm_layer (meanings IfArm-F map-IfArm p)) (λ p. operation_layer (meanings Operation-F map-Operation p)) (λ p. prefix_layer (meanings Prefix-F map-Prefix p))
      (λ p. return_layer (meanings Return-F map-Return p)) (λ p. stat_layer (meanings Stat-F map-Stat p));
  head = para-Head (ExpMeaning S) (FieldMeaning S) (ExpMeaning S) (KindMeaning S) (SuffixMeaning S) (VarMeaning S) (BlockMeaning S)
      (ExpMeaning S) (BodyMeaning S) (ArmMeaning S) (OperationMeaning S) (ExpMeaning S) (ReturnMeaning S) (StatMeaning S)
      (λ p. exp_layer (meanings Exp-F map-Exp p)) (λ p. field_layer run (meanings Field-F map-Field p)) (λ p. head_layer (meanings Head-F map-Head p))
      (λ p. kind_layer run (meanings StatKind-F map-StatKind p)) (λ p. suffix_layer run (meanings Suffix-F map-Suffix p)) (λ p. var_layer (meanings Var-F map-Var p))
      (λ p. block_layer (meanings Block-F map-Block p)) (λ p. call_layer run (meanings Call-F map-Call p)) (λ p. body_layer (meanings FunctionBody-F map-FunctionBody p))
      (λ p. arm_layer (meanings IfArm-F map-IfArm p)) (λ p. operation_layer (meanings Operation-F map-Operation p)) (λ p. prefix_layer (meanings Prefix-F map-Prefix p))
      (λ p. return_layer (meanings Return-F map-Return p)) (λ p. stat_layer (meanings Stat-F map-Stat p));
  kind = para-StatKind (ExpMeaning S) (FieldMeaning S) (ExpMeaning S) (KindMeaning S) (SuffixMeaning S) (VarMeaning S) (BlockMeaning S)
      (ExpMeaning S) (BodyMeaning S) (ArmMeaning S) (OperationMeaning S) (ExpMeaning S) (ReturnMeaning S) (StatMeaning S)
      (λ p. exp_layer (meanings Exp-F map-Exp p)) (λ p. field_layer run (meanings Field-F map-Field p)) (λ p. head_layer (meanings Head-F map-Head p))
      (λ p. kind_layer run (meanings StatKind-F map-StatKind p)) (λ p. suffix_layer run (meanings Suffix-F map-Suffix p)) (λ p. var_layer (meanings Var-F map-Var p))
      (λ p. block_layer (meanings Block-F map-Block p)) (λ p. call_layer run (meanings Call-F map-Call p)) (λ p. body_layer (meanings FunctionBody-F map-FunctionBody p))
      (λ p. arm_layer (meanings IfArm-F map-IfArm p)) (λ p. operation_layer (meanings Operation-F map-Operation p)) (λ p. prefix_layer (meanings Prefix-F map-Prefix p))
      (λ p. return_layer (meanings Return-F map-Return p)) (λ p. stat_layer (meanings Stat-F map-Stat p));
  suffix = para-Suffix (ExpMeaning S) (FieldMeaning S) (ExpMeaning S) (KindMeaning S) (SuffixMeaning S) (VarMeaning S) (BlockMeaning S)
      (ExpMeaning S) (BodyMeaning S) (ArmMeaning S) (OperationMeaning S) (ExpMeaning S) (ReturnMeaning S) (StatMeaning S)
      (λ p. exp_layer (meanings Exp-F map-Exp p)) (λ p. field_layer run (meanings Field-F map-Field p)) (λ p. head_layer (meanings Head-F map-Head p))
      (λ p. kind_layer run (meanings StatKind-F map-StatKind p)) (λ p. suffix_layer run (meanings Suffix-F map-Suffix p)) (λ p. var_layer (meanings Var-F map-Var p))
      (λ p. block_layer (meanings Block-F map-Block p)) (λ p. call_layer run (meanings Call-F map-Call p)) (λ p. body_layer (meanings FunctionBody-F map-FunctionBody p))
      (λ p. arm_layer (meanings IfArm-F map-IfArm p)) (λ p. operation_layer (meanings Operation-F map-Operation p)) (λ p. prefix_layer (meanings Prefix-F map-Prefix p))
      (λ p. return_layer (meanings Return-F map-Return p)) (λ p. stat_layer (meanings Stat-F map-Stat p));
  var = para-Var (ExpMeaning S) (FieldMeaning S) (ExpMeaning S) (KindMeaning S) (SuffixMeaning S) (VarMeaning S) (BlockMeaning S)
      (ExpMeaning S) (BodyMeaning S) (ArmMeaning S) (OperationMeaning S) (ExpMeaning S) (ReturnMeaning S) (StatMeaning S)
      (λ p. exp_layer (meanings Exp-F map-Exp p)) (λ p. field_layer run (meanings Field-F map-Field p)) (λ p. head_layer (meanings Head-F map-Head p))
      (λ p. kind_layer run (meanings StatKind-F map-StatKind p)) (λ p. suffix_layer run (meanings Suffix-F map-Suffix p)) (λ p. var_layer (meanings Var-F map-Var p))
      (λ p. block_layer (meanings Block-F map-Block p)) (λ p. call_layer run (meanings Call-F map-Call p)) (λ p. body_layer (meanings FunctionBody-F map-FunctionBody p))
      (λ p. arm_layer (meanings IfArm-F map-IfArm p)) (λ p. operation_layer (meanings Operation-F map-Operation p)) (λ p. prefix_layer (meanings Prefix-F map-Prefix p))
      (λ p. return_layer (meanings Return-F map-Return p)) (λ p. stat_layer (meanings Stat-F map-Stat p));
  block = para-Block (ExpMeaning S) (FieldMeaning S) (ExpMeaning S) (KindMeaning S) (SuffixMeaning S) (VarMeaning S) (BlockMeaning S)
      (ExpMeaning S) (BodyMeaning S) (ArmMeaning S) (OperationMeaning S) (ExpMeaning S) (ReturnMeaning S) (StatMeaning S)
      (λ p. exp_layer (meanings Exp-F map-Exp p)) (λ p. field_layer run (meanings Field-F map-Field p)) (λ p. head_layer (meanings Head-F map-Head p))
      (λ p. kind_layer run (meanings StatKind-F map-StatKind p)) (λ p. suffix_layer run (meanings Suffix-F map-Suffix p)) (λ p. var_layer (meanings Var-F map-Var p))
      (λ p. block_layer (meanings Block-F map-Block p)) (λ p. call_layer run (meanings Call-F map-Call p)) (λ p. body_layer (meanings FunctionBody-F map-FunctionBody p))
      (λ p. arm_layer (meanings IfArm-F map-IfArm p)) (λ p. operation_layer (meanings Operation-F map-Operation p)) (λ p. prefix_layer (meanings Prefix-F map-Prefix p))
      (λ p. return_layer (meanings Return-F map-Return p)) (λ p. stat_layer (meanings Stat-F map-Stat p));
  call = para-Call (ExpMeaning S) (FieldMeaning S) (ExpMeaning S) (KindMeaning S) (SuffixMeaning S) (VarMeaning S) (BlockMeaning S)
      (ExpMeaning S) (BodyMeaning S) (ArmMeaning S) (OperationMeaning S) (ExpMeaning S) (ReturnMeaning S) (StatMeaning S)
      (λ p. exp_layer (meanings Exp-F map-Exp p)) (λ p. field_layer run (meanings Field-F map-Field p)) (λ p. head_layer (meanings Head-F map-Head p))
      (λ p. kind_layer run (meanings StatKind-F map-StatKind p)) (λ p. suffix_layer run (meanings Suffix-F map-Suffix p)) (λ p. var_layer (meanings Var-F map-Var p))
      (λ p. block_layer (meanings Block-F map-Block p)) (λ p. call_layer run (meanings Call-F map-Call p)) (λ p. body_layer (meanings FunctionBody-F map-FunctionBody p))
      (λ p. arm_layer (meanings IfArm-F map-IfArm p)) (λ p. operation_layer (meanings Operation-F map-Operation p)) (λ p. prefix_layer (meanings Prefix-F map-Prefix p))
      (λ p. return_layer (meanings Return-F map-Return p)) (λ p. stat_layer (meanings Stat-F map-Stat p));
  body = para-FunctionBody (ExpMeaning S) (FieldMeaning S) (ExpMeaning S) (KindMeaning S) (SuffixMeaning S) (VarMeaning S) (BlockMeaning S)
      (ExpMeaning S) (BodyMeaning S) (ArmMeaning S) (OperationMeaning S) (ExpMeaning S) (ReturnMeaning S) (StatMeaning S)
      (λ p. exp_layer (meanings Exp-F map-Exp p)) (λ p. field_layer run (meanings Field-F map-Field p)) (λ p. head_layer (meanings Head-F map-Head p))
      (λ p. kind_layer run (meanings StatKind-F map-StatKind p)) (λ p. suffix_layer run (meanings Suffix-F map-Suffix p)) (λ p. var_layer (meanings Var-F map-Var p))
      (λ p. block_layer (meanings Block-F map-Block p)) (λ p. call_layer run (meanings Call-F map-Call p)) (λ p. body_layer (meanings FunctionBody-F map-FunctionBody p))
      (λ p. arm_layer (meanings IfArm-F map-IfArm p)) (λ p. operation_layer (meanings Operation-F map-Operation p)) (λ p. prefix_layer (meanings Prefix-F map-Prefix p))
      (λ p. return_layer (meanings Return-F map-Return p)) (λ p. stat_layer (meanings Stat-F map-Stat p));
  arm = para-IfArm (ExpMeaning S) (FieldMeaning S) (ExpMeaning S) (KindMeaning S) (SuffixMeaning S) (VarMeaning S) (BlockMeaning S)
      (ExpMeaning S) (BodyMeaning S) (ArmMeaning S) (OperationMeaning S) (ExpMeaning S) (ReturnMeaning S) (StatMeaning S)
      (λ p. exp_layer (meanings Exp-F map-Exp p)) (λ p. field_layer run (meanings Field-F map-Field p)) (λ p. head_layer (meanings Head-F map-Head p))
      (λ p. kind_layer run (meanings StatKind-F map-StatKind p)) (λ p. suffix_layer run (meanings Suffix-F map-Suffix p)) (λ p. var_layer (meanings Var-F map-Var p))
      (λ p. block_layer (meanings Block-F map-Block p)) (λ p. call_layer run (meanings Call-F map-Call p)) (λ p. body_layer (meanings FunctionBody-F map-FunctionBody p))
      (λ p. arm_layer (meanings IfArm-F map-IfArm p)) (λ p. operation_layer (meanings Operation-F map-Operation p)) (λ p. prefix_layer (meanings Prefix-F map-Prefix p))
      (λ p. return_layer (meanings Return-F map-Return p)) (λ p. stat_layer (meanings Stat-F map-Stat p));
  operation = para-Operation (ExpMeaning S) (FieldMeaning S) (ExpMeaning S) (KindMeaning S) (SuffixMeaning S) (VarMeaning S) (BlockMeaning S)
      (ExpMeaning S) (BodyMeaning S) (ArmMeaning S) (OperationMeaning S) (ExpMeaning S) (ReturnMeaning S) (StatMeaning S)
      (λ p. exp_layer (meanings Exp-F map-Exp p)) (λ p. field_layer run (meanings Field-F map-Field p)) (λ p. head_layer (meanings Head-F map-Head p))
      (λ p. kind_layer run (meanings StatKind-F map-StatKind p)) (λ p. suffix_layer run (meanings Suffix-F map-Suffix p)) (λ p. var_layer (meanings Var-F map-Var p))
      (λ p. block_layer (meanings Block-F map-Block p)) (λ p. call_layer run (meanings Call-F map-Call p)) (λ p. body_layer (meanings FunctionBody-F map-FunctionBody p))
      (λ p. arm_layer (meanings IfArm-F map-IfArm p)) (λ p. operation_layer (meanings Operation-F map-Operation p)) (λ p. prefix_layer (meanings Prefix-F map-Prefix p))
      (λ p. return_layer (meanings Return-F map-Return p)) (λ p. stat_layer (meanings Stat-F map-Stat p));
  prefix = para-Prefix (ExpMeaning S) (FieldMeaning S) (ExpMeaning S) (KindMeaning S) (SuffixMeaning S) (VarMeaning S) (BlockMeaning S)
      (ExpMeaning S) (BodyMeaning S) (ArmMeaning S) (OperationMeaning S) (ExpMeaning S) (ReturnMeaning S) (StatMeaning S)
      (λ p. exp_layer (meanings Exp-F map-Exp p)) (λ p. field_layer run (meanings Field-F map-Field p)) (λ p. head_layer (meanings Head-F map-Head p))
      (λ p. kind_layer run (meanings StatKind-F map-StatKind p)) (λ p. suffix_layer run (meanings Suffix-F map-Suffix p)) (λ p. var_layer (meanings Var-F map-Var p))
      (λ p. block_layer (meanings Block-F map-Block p)) (λ p. call_layer run (meanings Call-F map-Call p)) (λ p. body_layer (meanings FunctionBody-F map-FunctionBody p))
      (λ p. arm_layer (meanings IfArm-F map-IfArm p)) (λ p. operation_layer (meanings Operation-F map-Operation p)) (λ p. prefix_layer (meanings Prefix-F map-Prefix p))
      (λ p. return_layer (meanings Return-F map-Return p)) (λ p. stat_layer (meanings Stat-F map-Stat p));
  ret = para-Return (ExpMeaning S) (FieldMeaning S) (ExpMeaning S) (KindMeaning S) (SuffixMeaning S) (VarMeaning S) (BlockMeaning S)
      (ExpMeaning S) (BodyMeaning S) (ArmMeaning S) (OperationMeaning S) (ExpMeaning S) (ReturnMeaning S) (StatMeaning S)
      (λ p. exp_layer (meanings Exp-F map-Exp p)) (λ p. field_layer run (meanings Field-F map-Field p)) (λ p. head_layer (meanings Head-F map-Head p))
      (λ p. kind_layer run (meanings StatKind-F map-StatKind p)) (λ p. suffix_layer run (meanings Suffix-F map-Suffix p)) (λ p. var_layer (meanings Var-F map-Var p))
      (λ p. block_layer (meanings Block-F map-Block p)) (λ p. call_layer run (meanings Call-F map-Call p)) (λ p. body_layer (meanings FunctionBody-F map-FunctionBody p))
      (λ p. arm_layer (meanings IfArm-F map-IfArm p)) (λ p. operation_layer (meanings Operation-F map-Operation p)) (λ p. prefix_layer (meanings Prefix-F map-Prefix p))
      (λ p. return_layer (meanings Return-F map-Return p)) (λ p. stat_layer (meanings Stat-F map-Stat p));
  stat = para-Stat (ExpMeaning S) (FieldMeaning S) (ExpMeaning S) (KindMeaning S) (SuffixMeaning S) (VarMeaning S) (BlockMeaning S)
      (ExpMeaning S) (BodyMeaning S) (ArmMeaning S) (OperationMeaning S) (ExpMeaning S) (ReturnMeaning S) (StatMeaning S)
      (λ p. exp_layer (meanings Exp-F map-Exp p)) (λ p. field_layer run (meanings Field-F map-Field p)) (λ p. head_layer (meanings Head-F map-Head p))
      (λ p. kind_layer run (meanings StatKind-F map-StatKind p)) (λ p. suffix_layer run (meanings Suffix-F map-Suffix p)) (λ p. var_layer (meanings Var-F map-Var p))
      (λ p. block_layer (meanings Block-F map-Block p)) (λ p. call_layer run (meanings Call-F map-Call p)) (λ p. body_layer (meanings FunctionBody-F map-FunctionBody p))
      (λ p. arm_layer (meanings IfArm-F map-IfArm p)) (λ p. operation_layer (meanings Operation-F map-Operation p)) (λ p. prefix_layer (meanings Prefix-F map-Prefix p))
      (λ p. return_layer (meanings Return-F map-Return p)) (λ p. stat_layer (meanings Stat-F map-Stat p));
}

pub exp_rolls : {S : Type 0} (run : Setting S) (x : Exp-F Exp Field Head StatKind Suffix Var Block Call FunctionBody IfArm Operation Prefix Return Stat) → (whole run).exp (roll-Exp x) ≡ exp_layer (meanings Exp-F map-Exp (with_trees Exp-F map-Exp (whole run) x))
exp_rolls {S} run x = para-roll-Exp (ExpMeaning S) (FieldMeaning S) (ExpMeaning S) (KindMeaning S) (SuffixMeaning S) (VarMeaning S) (BlockMeaning S)
    (ExpMeaning S) (BodyMeaning S) (ArmMeaning S) (OperationMeaning S) (ExpMeaning S) (ReturnMeaning S) (StatMeaning S)
    (λ p. exp_layer (meanings Exp-F map-Exp p)) (λ p. field_layer run (meanings Field-F map-Field p)) (λ p. head_layer (meanings Head-F map-Head p))
    (λ p. kind_layer run (meanings StatKind-F map-StatKind p)) (λ p. suffix_layer run (meanings Suffix-F map-Suffix p)) (λ p. var_layer (meanings Var-F map-Var p))
    (λ p. block_layer (meanings Block-F map-Block p)) (λ p. call_layer run (meanings Call-F map-Call p)) (λ p. body_layer (meanings FunctionBody-F map-FunctionBody p))
    (λ p. arm_layer (meanings IfArm-F map-IfArm p)) (λ p. operation_layer (meanings Operation-F map-Operation p)) (λ p. prefix_layer (meanings Prefix-F map-Prefix p))
    (λ p. return_layer (meanings Return-F map-Return p)) (λ p. stat_layer (meanings Stat-F map-Stat p)) x

pub field_rolls : {S : Type 0} (run : Setting S) (x : Field-F Exp Field Head StatKind Suffix Var Block Call FunctionBody IfArm Operation Prefix Return Stat) → (whole run).field (roll-Field x) ≡ field_layer run (meanings Field-F map-Field (with_trees Field-F map-Field (whole run) x))
field_rolls {S} run x = para-roll-Field (ExpMeaning S) (FieldMeaning S) (ExpMeaning S) (KindMeaning S) (SuffixMeaning S) (VarMeaning S) (BlockMeaning S)
    (ExpMeaning S) (BodyMeaning S) (ArmMeaning S) (OperationMeaning S) (ExpMeaning S) (ReturnMeaning S) (StatMeaning S)
    (λ p. exp_layer (meanings Exp-F map-Exp p)) (λ p. field_layer run (meanings Field-F map-Field p)) (λ p. head_layer (meanings Head-F map-Head p))
    (λ p. kind_layer run (meanings StatKind-F map-StatKind p)) (λ p. suffix_layer run (meanings Suffix-F map-Suffix p)) (λ p. var_layer (meanings Var-F map-Var p))
    (λ p. block_layer (meanings Block-F map-Block p)) (λ p. call_layer run (meanings Call-F map-Call p)) (λ p. body_layer (meanings FunctionBody-F map-FunctionBody p))
    (λ p. arm_layer (meanings IfArm-F map-IfArm p)) (λ p. operation_layer (meanings Operation-F map-Operation p)) (λ p. prefix_layer (meanings Prefix-F map-Prefix p))
    (λ p. return_layer (meanings Return-F map-Return p)) (λ p. stat_layer (meanings Stat-F map-Stat p)) x

pub head_rolls : {S : Type 0} (run : Setting S) (x : Head-F Exp Field Head StatKind Suffix Var Block Call FunctionBody IfArm Operation Prefix Return Stat) → (whole run).head (roll-Head x) ≡ head_layer (meanings Head-F map-Head (with_trees Head-F map-Head (whole run) x))
head_rolls {S} run x = para-roll-Head (ExpMeaning S) (FieldMeaning S) (ExpMeaning S) (KindMeaning S) (SuffixMeaning S) (VarMeaning S) (BlockMeaning S)
    (ExpMeaning S) (BodyMeaning S) (ArmMeaning S) (OperationMeaning S) (ExpMeaning S) (ReturnMeaning S) (StatMeaning S)
    (λ p. exp_layer (meanings Exp-F map-Exp p)) (λ p. field_layer run (meanings Field-F map-Field p)) (λ p. head_layer (meanings Head-F map-Head p))
    (λ p. kind_layer run (meanings StatKind-F map-StatKind p)) (λ p. suffix_layer run (meanings Suffix-F map-Suffix p)) (λ p. var_layer (meanings Var-F map-Var p))
    (λ p. block_layer (meanings Block-F map-Block p)) (λ p. call_layer run (meanings Call-F map-Call p)) (λ p. body_layer (meanings FunctionBody-F map-FunctionBody p))
    (λ p. arm_layer (meanings IfArm-F map-IfArm p)) (λ p. operation_layer (meanings Operation-F map-Operation p)) (λ p. prefix_layer (meanings Prefix-F map-Prefix p))
    (λ p. return_layer (meanings Return-F map-Return p)) (λ p. stat_layer (meanings Stat-F map-Stat p)) x

pub kind_rolls : {S : Type 0} (run : Setting S) (x : StatKind-F Exp Field Head StatKind Suffix Var Block Call FunctionBody IfArm Operation Prefix Return Stat) → (whole run).kind (roll-StatKind x) ≡ kind_layer run (meanings StatKind-F map-StatKind (with_trees StatKind-F map-StatKind (whole run) x))
kind_rolls {S} run x = para-roll-StatKind (ExpMeaning S) (FieldMeaning S) (ExpMeaning S) (KindMeaning S) (SuffixMeaning S) (VarMeaning S) (BlockMeaning S)
    (ExpMeaning S) (BodyMeaning S) (ArmMeaning S) (OperationMeaning S) (ExpMeaning S) (ReturnMeaning S) (StatMeaning S)
    (λ p. exp_layer (meanings Exp-F map-Exp p)) (λ p. field_layer run (meanings Field-F map-Field p)) (λ p. head_layer (meanings Head-F map-Head p))
    (λ p. kind_layer run (meanings StatKind-F map-StatKind p)) (λ p. suffix_layer run (meanings Suffix-F map-Suffix p)) (λ p. var_layer (meanings Var-F map-Var p))
    (λ p. block_layer (meanings Block-F map-Block p)) (λ p. call_layer run (meanings Call-F map-Call p)) (λ p. body_layer (meanings FunctionBody-F map-FunctionBody p))
    (λ p. arm_layer (meanings IfArm-F map-IfArm p)) (λ p. operation_layer (meanings Operation-F map-Operation p)) (λ p. prefix_layer (meanings Prefix-F map-Prefix p))
    (λ p. return_layer (meanings Return-F map-Return p)) (λ p. stat_layer (meanings Stat-F map-Stat p)) x

pub suffix_rolls : {S : Type 0} (run : Setting S) (x : Suffix-F Exp Field Head StatKind Suffix Var Block Call FunctionBody IfArm Operation Prefix Return Stat) → (whole run).suffix (roll-Suffix x) ≡ suffix_layer run (meanings Suffix-F map-Suffix (with_trees Suffix-F map-Suffix (whole run) x))
suffix_rolls {S} run x = para-roll-Suffix (ExpMeaning S) (FieldMeaning S) (ExpMeaning S) (KindMeaning S) (SuffixMeaning S) (VarMeaning S) (BlockMeaning S)
    (ExpMeaning S) (BodyMeaning S) (ArmMeaning S) (OperationMeaning S) (ExpMeaning S) (ReturnMeaning S) (StatMeaning S)
    (λ p. exp_layer (meanings Exp-F map-Exp p)) (λ p. field_layer run (meanings Field-F map-Field p)) (λ p. head_layer (meanings Head-F map-Head p))
    (λ p. kind_layer run (meanings StatKind-F map-StatKind p)) (λ p. suffix_layer run (meanings Suffix-F map-Suffix p)) (λ p. var_layer (meanings Var-F map-Var p))
    (λ p. block_layer (meanings Block-F map-Block p)) (λ p. call_layer run (meanings Call-F map-Call p)) (λ p. body_layer (meanings FunctionBody-F map-FunctionBody p))
    (λ p. arm_layer (meanings IfArm-F map-IfArm p)) (λ p. operation_layer (meanings Operation-F map-Operation p)) (λ p. prefix_layer (meanings Prefix-F map-Prefix p))
    (λ p. return_layer (meanings Return-F map-Return p)) (λ p. stat_layer (meanings Stat-F map-Stat p)) x

pub var_rolls : {S : Type 0} (run : Setting S) (x : Var-F Exp Field Head StatKind Suffix Var Block Call FunctionBody IfArm Operation Prefix Return Stat) → (whole run).var (roll-Var x) ≡ var_layer (meanings Var-F map-Var (with_trees Var-F map-Var (whole run) x))
var_rolls {S} run x = para-roll-Var (ExpMeaning S) (FieldMeaning S) (ExpMeaning S) (KindMeaning S) (SuffixMeaning S) (VarMeaning S) (BlockMeaning S)
    (ExpMeaning S) (BodyMeaning S) (ArmMeaning S) (OperationMeaning S) (ExpMeaning S) (ReturnMeaning S) (StatMeaning S)
    (λ p. exp_layer (meanings Exp-F map-Exp p)) (λ p. field_layer run (meanings Field-F map-Field p)) (λ p. head_layer (meanings Head-F map-Head p))
    (λ p. kind_layer run (meanings StatKind-F map-StatKind p)) (λ p. suffix_layer run (meanings Suffix-F map-Suffix p)) (λ p. var_layer (meanings Var-F map-Var p))
    (λ p. block_layer (meanings Block-F map-Block p)) (λ p. call_layer run (meanings Call-F map-Call p)) (λ p. body_layer (meanings FunctionBody-F map-FunctionBody p))
    (λ p. arm_layer (meanings IfArm-F map-IfArm p)) (λ p. operation_layer (meanings Operation-F map-Operation p)) (λ p. prefix_layer (meanings Prefix-F map-Prefix p))
    (λ p. return_layer (meanings Return-F map-Return p)) (λ p. stat_layer (meanings Stat-F map-Stat p)) x

pub block_rolls : {S : Type 0} (run : Setting S) (x : Block-F Exp Field Head StatKind Suffix Var Block Call FunctionBody IfArm Operation Prefix Return Stat) → (whole run).block (roll-Block x) ≡ block_layer (meanings Block-F map-Block (with_trees Block-F map-Block (whole run) x))
block_rolls {S} run x = para-roll-Block (ExpMeaning S) (FieldMeaning S) (ExpMeaning S) (KindMeaning S) (SuffixMeaning S) (VarMeaning S) (BlockMeaning S)
    (ExpMeaning S) (BodyMeaning S) (ArmMeaning S) (OperationMeaning S) (ExpMeaning S) (ReturnMeaning S) (StatMeaning S)
    (λ p. exp_layer (meanings Exp-F map-Exp p)) (λ p. field_layer run (meanings Field-F map-Field p)) (λ p. head_layer (meanings Head-F map-Head p))
    (λ p. kind_layer run (meanings StatKind-F map-StatKind p)) (λ p. suffix_layer run (meanings Suffix-F map-Suffix p)) (λ p. var_layer (meanings Var-F map-Var p))
    (λ p. block_layer (meanings Block-F map-Block p)) (λ p. call_layer run (meanings Call-F map-Call p)) (λ p. body_layer (meanings FunctionBody-F map-FunctionBody p))
    (λ p. arm_layer (meanings IfArm-F map-IfArm p)) (λ p. operation_layer (meanings Operation-F map-Operation p)) (λ p. prefix_layer (meanings Prefix-F map-Prefix p))
    (λ p. return_layer (meanings Return-F map-Return p)) (λ p. stat_layer (meanings Stat-F map-Stat p)) x

pub call_rolls : {S : Type 0} (run : Setting S) (x : Call-F Exp Field Head StatKind Suffix Var Block Call FunctionBody IfArm Operation Prefix Return Stat) → (whole run).call (roll-Call x) ≡ call_layer run (meanings Call-F map-Call (with_trees Call-F map-Call (whole run) x))
call_rolls {S} run x = para-roll-Call (ExpMeaning S) (FieldMeaning S) (ExpMeaning S) (KindMeaning S) (SuffixMeaning S) (VarMeaning S) (BlockMeaning S)
    (ExpMeaning S) (BodyMeaning S) (ArmMeaning S) (OperationMeaning S) (ExpMeaning S) (ReturnMeaning S) (StatMeaning S)
    (λ p. exp_layer (meanings Exp-F map-Exp p)) (λ p. field_layer run (meanings Field-F map-Field p)) (λ p. head_layer (meanings Head-F map-Head p))
    (λ p. kind_layer run (meanings StatKind-F map-StatKind p)) (λ p. suffix_layer run (meanings Suffix-F map-Suffix p)) (λ p. var_layer (meanings Var-F map-Var p))
    (λ p. block_layer (meanings Block-F map-Block p)) (λ p. call_layer run (meanings Call-F map-Call p)) (λ p. body_layer (meanings FunctionBody-F map-FunctionBody p))
    (λ p. arm_layer (meanings IfArm-F map-IfArm p)) (λ p. operation_layer (meanings Operation-F map-Operation p)) (λ p. prefix_layer (meanings Prefix-F map-Prefix p))
    (λ p. return_layer (meanings Return-F map-Return p)) (λ p. stat_layer (meanings Stat-F map-Stat p)) x

pub body_rolls : {S : Type 0} (run : Setting S) (x : FunctionBody-F Exp Field Head StatKind Suffix Var Block Call FunctionBody IfArm Operation Prefix Return Stat) → (whole run).body (roll-FunctionBody x) ≡ body_layer (meanings FunctionBody-F map-FunctionBody (with_trees FunctionBody-F map-FunctionBody (whole run) x))
body_rolls {S} run x = para-roll-FunctionBody (ExpMeaning S) (FieldMeaning S) (ExpMeaning S) (KindMeaning S) (SuffixMeaning S) (VarMeaning S) (BlockMeaning S)
    (ExpMeaning S) (BodyMeaning S) (ArmMeaning S) (OperationMeaning S) (ExpMeaning S) (ReturnMeaning S) (StatMeaning S)
    (λ p. exp_layer (meanings Exp-F map-Exp p)) (λ p. field_layer run (meanings Field-F map-Field p)) (λ p. head_layer (meanings Head-F map-Head p))
    (λ p. kind_layer run (meanings StatKind-F map-StatKind p)) (λ p. suffix_layer run (meanings Suffix-F map-Suffix p)) (λ p. var_layer (meanings Var-F map-Var p))
    (λ p. block_layer (meanings Block-F map-Block p)) (λ p. call_layer run (meanings Call-F map-Call p)) (λ p. body_layer (meanings FunctionBody-F map-FunctionBody p))
    (λ p. arm_layer (meanings IfArm-F map-IfArm p)) (λ p. operation_layer (meanings Operation-F map-Operation p)) (λ p. prefix_layer (meanings Prefix-F map-Prefix p))
    (λ p. return_layer (meanings Return-F map-Return p)) (λ p. stat_layer (meanings Stat-F map-Stat p)) x

pub arm_rolls : {S : Type 0} (run : Setting S) (x : IfArm-F Exp Field Head StatKind Suffix Var Block Call FunctionBody IfArm Operation Prefix Return Stat) → (whole run).arm (roll-IfArm x) ≡ arm_layer (meanings IfArm-F map-IfArm (with_trees IfArm-F map-IfArm (whole run) x))
arm_rolls {S} run x = para-roll-IfArm (ExpMeaning S) (FieldMeaning S) (ExpMeaning S) (KindMeaning S) (SuffixMeaning S) (VarMeaning S) (BlockMeaning S)
    (ExpMeaning S) (BodyMeaning S) (ArmMeaning S) (OperationMeaning S) (ExpMeaning S) (ReturnMeaning S) (StatMeaning S)
    (λ p. exp_layer (meanings Exp-F map-Exp p)) (λ p. field_layer run (meanings Field-F map-Field p)) (λ p. head_layer (meanings Head-F map-Head p))
    (λ p. kind_layer run (meanings StatKind-F map-StatKind p)) (λ p. suffix_layer run (meanings Suffix-F map-Suffix p)) (λ p. var_layer (meanings Var-F map-Var p))
    (λ p. block_layer (meanings Block-F map-Block p)) (λ p. call_layer run (meanings Call-F map-Call p)) (λ p. body_layer (meanings FunctionBody-F map-FunctionBody p))
    (λ p. arm_layer (meanings IfArm-F map-IfArm p)) (λ p. operation_layer (meanings Operation-F map-Operation p)) (λ p. prefix_layer (meanings Prefix-F map-Prefix p))
    (λ p. return_layer (meanings Return-F map-Return p)) (λ p. stat_layer (meanings Stat-F map-Stat p)) x

pub operation_rolls : {S : Type 0} (run : Setting S) (x : Operation-F Exp Field Head StatKind Suffix Var Block Call FunctionBody IfArm Operation Prefix Return Stat) → (whole run).operation (roll-Operation x) ≡ operation_layer (meanings Operation-F map-Operation (with_trees Operation-F map-Operation (whole run) x))
operation_rolls {S} run x = para-roll-Operation (ExpMeaning S) (FieldMeaning S) (ExpMeaning S) (KindMeaning S) (SuffixMeaning S) (VarMeaning S) (BlockMeaning S)
    (ExpMeaning S) (BodyMeaning S) (ArmMeaning S) (OperationMeaning S) (ExpMeaning S) (ReturnMeaning S) (StatMeaning S)
    (λ p. exp_layer (meanings Exp-F map-Exp p)) (λ p. field_layer run (meanings Field-F map-Field p)) (λ p. head_layer (meanings Head-F map-Head p))
    (λ p. kind_layer run (meanings StatKind-F map-StatKind p)) (λ p. suffix_layer run (meanings Suffix-F map-Suffix p)) (λ p. var_layer (meanings Var-F map-Var p))
    (λ p. block_layer (meanings Block-F map-Block p)) (λ p. call_layer run (meanings Call-F map-Call p)) (λ p. body_layer (meanings FunctionBody-F map-FunctionBody p))
    (λ p. arm_layer (meanings IfArm-F map-IfArm p)) (λ p. operation_layer (meanings Operation-F map-Operation p)) (λ p. prefix_layer (meanings Prefix-F map-Prefix p))
    (λ p. return_layer (meanings Return-F map-Return p)) (λ p. stat_layer (meanings Stat-F map-Stat p)) x

pub prefix_rolls : {S : Type 0} (run : Setting S) (x : Prefix-F Exp Field Head StatKind Suffix Var Block Call FunctionBody IfArm Operation Prefix Return Stat) → (whole run).prefix (roll-Prefix x) ≡ prefix_layer (meanings Prefix-F map-Prefix (with_trees Prefix-F map-Prefix (whole run) x))
prefix_rolls {S} run x = para-roll-Prefix (ExpMeaning S) (FieldMeaning S) (ExpMeaning S) (KindMeaning S) (SuffixMeaning S) (VarMeaning S) (BlockMeaning S)
    (ExpMeaning S) (BodyMeaning S) (ArmMeaning S) (OperationMeaning S) (ExpMeaning S) (ReturnMeaning S) (StatMeaning S)
    (λ p. exp_layer (meanings Exp-F map-Exp p)) (λ p. field_layer run (meanings Field-F map-Field p)) (λ p. head_layer (meanings Head-F map-Head p))
    (λ p. kind_layer run (meanings StatKind-F map-StatKind p)) (λ p. suffix_layer run (meanings Suffix-F map-Suffix p)) (λ p. var_layer (meanings Var-F map-Var p))
    (λ p. block_layer (meanings Block-F map-Block p)) (λ p. call_layer run (meanings Call-F map-Call p)) (λ p. body_layer (meanings FunctionBody-F map-FunctionBody p))
    (λ p. arm_layer (meanings IfArm-F map-IfArm p)) (λ p. operation_layer (meanings Operation-F map-Operation p)) (λ p. prefix_layer (meanings Prefix-F map-Prefix p))
    (λ p. return_layer (meanings Return-F map-Return p)) (λ p. stat_layer (meanings Stat-F map-Stat p)) x

pub ret_rolls : {S : Type 0} (run : Setting S) (x : Return-F Exp Field Head StatKind Suffix Var Block Call FunctionBody IfArm Operation Prefix Return Stat) → (whole run).ret (roll-Return x) ≡ return_layer (meanings Return-F map-Return (with_trees Return-F map-Return (whole run) x))
ret_rolls {S} run x = para-roll-Return (ExpMeaning S) (FieldMeaning S) (ExpMeaning S) (KindMeaning S) (SuffixMeaning S) (VarMeaning S) (BlockMeaning S)
    (ExpMeaning S) (BodyMeaning S) (ArmMeaning S) (OperationMeaning S) (ExpMeaning S) (ReturnMeaning S) (StatMeaning S)
    (λ p. exp_layer (meanings Exp-F map-Exp p)) (λ p. field_layer run (meanings Field-F map-Field p)) (λ p. head_layer (meanings Head-F map-Head p))
    (λ p. kind_layer run (meanings StatKind-F map-StatKind p)) (λ p. suffix_layer run (meanings Suffix-F map-Suffix p)) (λ p. var_layer (meanings Var-F map-Var p))
    (λ p. block_layer (meanings Block-F map-Block p)) (λ p. call_layer run (meanings Call-F map-Call p)) (λ p. body_layer (meanings FunctionBody-F map-FunctionBody p))
    (λ p. arm_layer (meanings IfArm-F map-IfArm p)) (λ p. operation_layer (meanings Operation-F map-Operation p)) (λ p. prefix_layer (meanings Prefix-F map-Prefix p))
    (λ p. return_layer (meanings Return-F map-Return p)) (λ p. stat_layer (meanings Stat-F map-Stat p)) x

pub stat_rolls : {S : Type 0} (run : Setting S) (x : Stat-F Exp Field Head StatKind Suffix Var Block Call FunctionBody IfArm Operation Prefix Return Stat) → (whole run).stat (roll-Stat x) ≡ stat_layer (meanings Stat-F map-Stat (with_trees Stat-F map-Stat (whole run) x))
stat_rolls {S} run x = para-roll-Stat (ExpMeaning S) (FieldMeaning S) (ExpMeaning S) (KindMeaning S) (SuffixMeaning S) (VarMeaning S) (BlockMeaning S)
    (ExpMeaning S) (BodyMeaning S) (ArmMeaning S) (OperationMeaning S) (ExpMeaning S) (ReturnMeaning S) (StatMeaning S)
    (λ p. exp_layer (meanings Exp-F map-Exp p)) (λ p. field_layer run (meanings Field-F map-Field p)) (λ p. head_layer (meanings Head-F map-Head p))
    (λ p. kind_layer run (meanings StatKind-F map-StatKind p)) (λ p. suffix_layer run (meanings Suffix-F map-Suffix p)) (λ p. var_layer (meanings Var-F map-Var p))
    (λ p. block_layer (meanings Block-F map-Block p)) (λ p. call_layer run (meanings Call-F map-Call p)) (λ p. body_layer (meanings FunctionBody-F map-FunctionBody p))
    (λ p. arm_layer (meanings IfArm-F map-IfArm p)) (λ p. operation_layer (meanings Operation-F map-Operation p)) (λ p. prefix_layer (meanings Prefix-F map-Prefix p))
    (λ p. return_layer (meanings Return-F map-Return p)) (λ p. stat_layer (meanings Stat-F map-Stat p)) x
