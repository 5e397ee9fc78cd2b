-- What is found at a name.
use Rattle.std.proofs.Common.{◌≡◌, ℕ, Option, None, Some, Ok, Err, ap, subst}
use Rattle.std.specs.Prelude.{Result, IfOk}
use Rattle.std.specs.FinMap as map
use Rattle.ntx_num.specs.Answer.{Answers}
use Rattle.ntx_num.specs.Dimension.{IsDimension}
use Rattle.ntx_num.specs.declared.answer.Fail.{Fail}
use Rattle.ntx_num.proofs.Answers.{same_Ok, same_Err}
use Rattle.ntx_nodes.specs.Heap.{Heap, IsLawful}
use Rattle.ntx_nodes.specs.Steps.{of_found, at, fields_answer}
use Rattle.ntx_nodes.specs.declared.contents.BoxFields.{BoxFields}
use Rattle.ntx_nodes.specs.declared.fields.Contents.{Contents}
use Rattle.ntx_nodes.specs.declared.fields.Contents.TheVariants as contents
use Rattle.ntx_nodes.specs.declared.fields.Fields.{Fields}
use Rattle.ntx_nodes.specs.declared.node.Node.{Node}
use Rattle.ntx_nodes.specs.declared.trouble.Trouble.{Trouble}
use Rattle.ntx_nodes.specs.declared.trouble.Trouble.TheVariants.{Stale}
use Rattle.ntx_view.specs.Measured.{HasMeasures}
use Rattle.ntx_view.proofs.Measures.{measures_at}
use Rattle.ntx_lines.specs.LineBox.{fields_of_box}

there : {A : Type 0} (n : ℕ) (f : Contents → Result A Trouble) (o : Option Node) (fields : Fields) → of_found {A = Fields} n (λ node. Ok node.fields) o ≡ Ok fields → of_found n (λ node. f node.fields.contents) o ≡ f fields.contents
there n f None fields e = cc
there n f (Some node) fields e = ap (λ (x : Fields). f x.contents) (same_Ok {E = Trouble} node.fields fields e)

gone : {A : Type 0} (n : ℕ) (f : Contents → Result A Trouble) (o : Option Node) (why : Trouble) → of_found {A = Fields} n (λ node. Ok node.fields) o ≡ Err why → of_found n (λ node. f node.fields.contents) o ≡ Err why
gone n f None why e = ap Err (same_Err {A = Fields} (Stale n) why e)
gone n f (Some node) why e = cc

-- what depends on the contents of a node, if its fields are found
pub at_fields : {A : Type 0} (heap : Heap) (n : ℕ) (f : Contents → Result A Trouble) (fields : Fields) → fields_answer n heap ≡ Ok fields → at heap n (λ node. f node.fields.contents) ≡ f fields.contents
at_fields heap n f fields e = there n f (map.get heap.nodes n) fields e

-- and if they are not
pub at_none : {A : Type 0} (heap : Heap) (n : ℕ) (f : Contents → Result A Trouble) (why : Trouble) → fields_answer n heap ≡ Err why → at heap n (λ node. f node.fields.contents) ≡ Err why
at_none heap n f why e = gone n f (map.get heap.nodes n) why e

-- ---- the fields of a box
box_in_range : (n : ℕ) (c : Contents) (b : BoxFields) → HasMeasures c → fields_of_box n c ≡ Ok b → IsDimension b.height × IsDimension b.depth
box_in_range n (contents.Hlist x) b m e = subst (λ (y : BoxFields). IsDimension y.height × IsDimension y.depth) (same_Ok {E = Trouble} x b e) (m.0.height, m.0.depth)
box_in_range n (contents.Vlist x) b m e = subst (λ (y : BoxFields). IsDimension y.height × IsDimension y.depth) (same_Ok {E = Trouble} x b e) (m.0.height, m.0.depth)
box_in_range n (contents.Rule x) b m e = cc
box_in_range n (contents.Disc x) b m e = cc
box_in_range n (contents.Glue x) b m e = cc
box_in_range n (contents.Kern x) b m e = cc
box_in_range n (contents.Penalty x) b m e = cc
box_in_range n (contents.Glyph x) b m e = cc

pub box_measured : (heap : Heap) (n : ℕ) (fields : Fields) (r : Result BoxFields (Fail Trouble)) → IsLawful heap → fields_answer n heap ≡ Ok fields → Answers r (fields_of_box n fields.contents) → IfOk r (λ b. IsDimension b.height × IsDimension b.depth)
box_measured heap n fields (Ok b) l e a = box_in_range n fields.contents b (measures_at heap n fields l e) a
box_measured heap n fields (Err e) l f a = tt
