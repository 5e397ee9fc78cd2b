-- The layers of a tree. The recursion over a tree hands to each construct its parts both as trees and as meanings. The meanings are
-- all that is used, but of bodies: a function keeps the tree of its body.
use Rattle.ntx_syntax.specs.declared.tree.Exp.{Exp}
use Rattle.ntx_syntax.specs.declared.tree.Field.{Field}
use Rattle.ntx_syntax.specs.declared.tree.Head.{Head}
use Rattle.ntx_syntax.specs.declared.tree.StatKind.{StatKind}
use Rattle.ntx_syntax.specs.declared.tree.Suffix.{Suffix}
use Rattle.ntx_syntax.specs.declared.tree.Var.{Var}
use Rattle.ntx_syntax.specs.declared.tree.Block.{Block}
use Rattle.ntx_syntax.specs.declared.tree.Call.{Call}
use Rattle.ntx_syntax.specs.declared.tree.FunctionBody.{FunctionBody}
use Rattle.ntx_syntax.specs.declared.tree.IfArm.{IfArm}
use Rattle.ntx_syntax.specs.declared.tree.Operation.{Operation}
use Rattle.ntx_syntax.specs.declared.tree.Prefix.{Prefix}
use Rattle.ntx_syntax.specs.declared.tree.Return.{Return}
use Rattle.ntx_syntax.specs.declared.tree.Stat.{Stat}
use Rattle.ntx_eval.specs.Parts.{Of, ExpMeaning, FieldMeaning, KindMeaning, SuffixMeaning, VarMeaning, BlockMeaning, BodyMeaning, ArmMeaning, OperationMeaning, ReturnMeaning, StatMeaning}

-- A layer over types for its parts, in the order of the tree's types.
abbrev pub Layer : Type 1
Layer = Type 0 → Type 0 → Type 0 → Type 0 → Type 0 → Type 0 → Type 0 → Type 0 → Type 0 → Type 0 → Type 0 → Type 0 → Type 0 → Type 0 → Type 0

-- a layer with each part changed by a function
abbrev pub MapOf : Layer → Type 1
MapOf F =
    (a b c d e f g h i j k l m n : Type 0) (a' b' c' d' e' f' g' h' i' j' k' l' m' n' : Type 0)
    → (a → a') → (b → b') → (c → c') → (d → d') → (e → e') → (f → f') → (g → g') → (h → h') → (i → i') → (j → j') → (k → k') → (l → l') → (m → m') → (n → n')
    → F a b c d e f g h i j k l m n → F a' b' c' d' e' f' g' h' i' j' k' l' m' n'

abbrev pub With : Type 0 → Layer → Type 0
With S F =
    F (Exp × ExpMeaning S) (Field × FieldMeaning S) (Head × ExpMeaning S) (StatKind × KindMeaning S) (Suffix × SuffixMeaning S) (Var × VarMeaning S) (Block × BlockMeaning S)
    (Call × ExpMeaning S) (FunctionBody × BodyMeaning S) (IfArm × ArmMeaning S) (Operation × OperationMeaning S) (Prefix × ExpMeaning S) (Return × ReturnMeaning S) (Stat × StatMeaning S)

abbrev pub meanings : {S : Type 0} (F : Layer) → MapOf F → With S F → Of S F
meanings {S} F map layer =
    map (Exp × ExpMeaning S) (Field × FieldMeaning S) (Head × ExpMeaning S) (StatKind × KindMeaning S) (Suffix × SuffixMeaning S) (Var × VarMeaning S) (Block × BlockMeaning S)
    (Call × ExpMeaning S) (FunctionBody × BodyMeaning S) (IfArm × ArmMeaning S) (Operation × OperationMeaning S) (Prefix × ExpMeaning S) (Return × ReturnMeaning S) (Stat × StatMeaning S)
    (ExpMeaning S) (FieldMeaning S) (ExpMeaning S) (KindMeaning S) (SuffixMeaning S) (VarMeaning S) (BlockMeaning S)
    (ExpMeaning S) (FunctionBody × BodyMeaning S) (ArmMeaning S) (OperationMeaning S) (ExpMeaning S) (ReturnMeaning S) (StatMeaning S)
    (λ x. x.1) (λ x. x.1) (λ x. x.1) (λ x. x.1) (λ x. x.1) (λ x. x.1) (λ x. x.1)
    (λ x. x.1) (λ x. x) (λ x. x.1) (λ x. x.1) (λ x. x.1) (λ x. x.1) (λ x. x.1) layer
