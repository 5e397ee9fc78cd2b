-- The numbers by which the nodes of lawful heaps are placed.
use Rattle.std.proofs.Common.{◌≡◌, ℕ, Some, Ok, sym, ap, ◌∙◌}
use Rattle.std.specs.FinMap as map
use Rattle.ntx_num.proofs.Answers.{same_Ok}
use Rattle.ntx_nodes.specs.Heap.{Heap, IsLawful}
use Rattle.ntx_nodes.specs.Steps.{of_found, fields_answer}
use Rattle.ntx_nodes.specs.declared.fields.Fields.{Fields}
use Rattle.ntx_nodes.specs.declared.fields.Contents.{Contents}
use Rattle.ntx_nodes.specs.declared.fields.Contents.TheVariants as contents
use Rattle.ntx_nodes.specs.declared.node.Node.{Node}
use Rattle.ntx_nodes.specs.declared.trouble.Trouble.{Trouble}
use Rattle.ntx_nodes.proofs.Oks.{at_Ok}
use Rattle.ntx_pack.specs.GlueSet.{glue_set_in, box_glue}
use Rattle.ntx_pack.proofs.CodeNumbers.{answer_settable}
use Rattle.ntx_view.proofs.Measures.{measures_at}
use Rattle.ntx_ship.specs.inner.Reach.{HasRatio, HasRanges}

ratio_at : (heap : Heap) (n : ℕ) (node : Node) (c : Contents) → IsLawful heap → map.get heap.nodes n ≡ Some node → node.fields.contents ≡ c → HasRatio c
ratio_at heap n node (contents.Hlist b) lawful is same =
    (answer_settable heap n (Ok (glue_set_in b)) lawful (sym (ap (of_found n (λ (m : Node). box_glue n m.fields.contents)) is ∙ ap (box_glue n) same))).0
ratio_at heap n node (contents.Vlist b) lawful is same =
    (answer_settable heap n (Ok (glue_set_in b)) lawful (sym (ap (of_found n (λ (m : Node). box_glue n m.fields.contents)) is ∙ ap (box_glue n) same))).0
ratio_at heap n node (contents.Rule r) lawful is same = tt
ratio_at heap n node (contents.Disc d) lawful is same = tt
ratio_at heap n node (contents.Glue g) lawful is same = tt
ratio_at heap n node (contents.Kern w) lawful is same = tt
ratio_at heap n node (contents.Penalty p) lawful is same = tt
ratio_at heap n node (contents.Glyph g) lawful is same = tt

pub ranges_at : (heap : Heap) (n : ℕ) (fields : Fields) → IsLawful heap → fields_answer n heap ≡ Ok fields → HasRanges fields.contents
ranges_at heap n fields lawful e =
    let found = at_Ok heap n (λ node. Ok node.fields) fields e in
    let same : found.node.fields ≡ fields = same_Ok {E = Trouble} found.node.fields fields found.gives in
    record {
      measures = measures_at heap n fields lawful e;
      ratio = ratio_at heap n found.node fields.contents lawful found.is (ap (λ (x : Fields). x.contents) same);
    }
