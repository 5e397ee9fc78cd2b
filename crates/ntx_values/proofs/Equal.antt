-- Two values are the same only where they are equal.
use Rattle.std.proofs.Common.{◌≡◌, Bool, true, false, ap, sym, refl, ◌∙◌, true≢false}
use denote.Enum.Bare.{same_true}
use Rattle.std.proofs.lemmas.Bool.Decides.{Decides-int_eq, Decides-eqb}
use Rattle.ntx_nodes.specs.contracts.kind.Kind as kind
use Rattle.ntx_values.specs.contracts.primitive.LibFn as lib_fn
use Rattle.ntx_values.specs.contracts.primitive.PrimitivePartialEq.TheImpl as equality
use Rattle.ntx_values.specs.declared.primitive.Primitive.{Primitive}
use Rattle.ntx_values.specs.declared.primitive.Primitive.TheVariants.{Lib, NodeNew, NodeFree, NodeFlushList, NodeCopy, NodeCopyList, NodeInsertBefore, NodeInsertAfter, NodeRemove, NodeSlide, NodeTail, NodeLength, NodeTraverse, NodeTraverseId, NodeId, NodeType, NodeIsNode, NodeHpack, NodeVpack, NodeDimensions, NodeSetAttribute, NodeUnsetAttribute, NodeHasAttribute, NodeLigaturing, NodeKerning, LangHyphenate, TexGet, TexSet, TexLinebreak, TexTypeset, CallbackRegister, CallbackFind, NodeGet, NodeSet, ListNext, KindNext}
use Rattle.ntx_values.specs.Value.{is_same}
use Rattle.ntx_values.specs.declared.value.Value.{Value}
use Rattle.ntx_values.specs.declared.value.Value.TheVariants.{Nil, Int, Text, Table, Function, Prim, Node}
use Rattle.ntx_values.specs.declared.value.Value.TheVariants as value

abbrev same_primitive : Primitive → Primitive → Bool
same_primitive = (equality.ghosts).eq

pub equal_primitives : (x y : Primitive) → same_primitive x y ≡ true → x ≡ y
equal_primitives (Lib f) (Lib g) h = ap Lib (same_true lib_fn.the_type tt f g h)
equal_primitives (KindNext a) (KindNext b) h = ap KindNext (same_true kind.the_type tt a b h)
equal_primitives NodeNew NodeNew h = refl
equal_primitives NodeFree NodeFree h = refl
equal_primitives NodeFlushList NodeFlushList h = refl
equal_primitives NodeCopy NodeCopy h = refl
equal_primitives NodeCopyList NodeCopyList h = refl
equal_primitives NodeInsertBefore NodeInsertBefore h = refl
equal_primitives NodeInsertAfter NodeInsertAfter h = refl
equal_primitives NodeRemove NodeRemove h = refl
equal_primitives NodeSlide NodeSlide h = refl
equal_primitives NodeTail NodeTail h = refl
equal_primitives NodeLength NodeLength h = refl
equal_primitives NodeTraverse NodeTraverse h = refl
equal_primitives NodeTraverseId NodeTraverseId h = refl
equal_primitives NodeId NodeId h = refl
equal_primitives NodeType NodeType h = refl
equal_primitives NodeIsNode NodeIsNode h = refl
equal_primitives NodeHpack NodeHpack h = refl
equal_primitives NodeVpack NodeVpack h = refl
equal_primitives NodeDimensions NodeDimensions h = refl
equal_primitives NodeSetAttribute NodeSetAttribute h = refl
equal_primitives NodeUnsetAttribute NodeUnsetAttribute h = refl
equal_primitives NodeHasAttribute NodeHasAttribute h = refl
equal_primitives NodeLigaturing NodeLigaturing h = refl
equal_primitives NodeKerning NodeKerning h = refl
equal_primitives LangHyphenate LangHyphenate h = refl
equal_primitives TexGet TexGet h = refl
equal_primitives TexSet TexSet h = refl
equal_primitives TexLinebreak TexLinebreak h = refl
equal_primitives TexTypeset TexTypeset h = refl
equal_primitives CallbackRegister CallbackRegister h = refl
equal_primitives CallbackFind CallbackFind h = refl
equal_primitives NodeGet NodeGet h = refl
equal_primitives NodeSet NodeSet h = refl
equal_primitives ListNext ListNext h = refl
equal_primitives _ _ h = absurd (true≢false (sym h))

equal_bools : (a b : Bool) → is_same (value.Bool a) (value.Bool b) ≡ true → a ≡ b
equal_bools true true h = refl
equal_bools false false h = refl
equal_bools true false h = absurd (true≢false (sym h))
equal_bools false true h = absurd (true≢false (sym h))

pub equal_values : (x y : Value) → is_same x y ≡ true → x ≡ y
equal_values Nil Nil h = refl
equal_values (value.Bool a) (value.Bool b) h = ap value.Bool (equal_bools a b h)
equal_values (Int a) (Int b) h = ap Int ((Decides-int_eq a b).0 h)
equal_values (Text a) (Text b) h = let e = (Decides-eqb a.number b.number).0 h in λ i. Text (record { number = e i })
equal_values (Table a) (Table b) h = let e = (Decides-eqb a.number b.number).0 h in λ i. Table (record { number = e i })
equal_values (Function a) (Function b) h = let e = (Decides-eqb a.number b.number).0 h in λ i. Function (record { number = e i })
equal_values (Prim a) (Prim b) h = ap Prim (equal_primitives a b h)
equal_values (Node a) (Node b) h = ap Node ((Decides-eqb a b).0 h)
equal_values _ _ h = absurd (true≢false (sym h))
