-- proofs/view/bare_items_of/Answers.antt
use Rattle.std.proofs.Common.{◌≤◌, ◌+◌, ◌++◌, [], ◌∷◌, length, get_or, subst, sym, ap, ◌∙◌, arith, length-append}
use Rattle.std.specs.List.{All}
use Rattle.std.proofs.lemmas.List.Elements.{All-push}
use Rattle.ntx_view.specs.Bounds.{IsBoundedBy}
use Rattle.ntx_view.specs.View.{bare_item}
use Rattle.ntx_view.proofs.Lists.{items_more, bare_found}
use Rattle.ntx_view.proofs.view.bare_items_of.Goals as goal

pub fields_of-requires : goal.fields_of-requires
fields_of-requires g c = c.requires c.loop-n.n-index 0 c.loop-n-test.true

pub loop-n-preserved : goal.loop-n-preserved
loop-n-preserved g c =
    let pushed = c.in_ok-push.ensures.items in
    let old = c.loop-n.items.items in
    let item = c.bare_item.result in
    let f = bare_item c.args.fonts.now in
    let heap = g.N.Nodes.heap c.args.nodes.now in
    let names = c.args.names.now in
    let i = c.loop-n.n-index in
    let found = bare_found heap c.args.fonts.now (get_or names i 0) c.fields_of.result item c.fields_of.ensures.value c.bare_item.ensures.item in
    record {
      items = pushed ∙ ap (λ x. x ++ item ∷ []) c.loop-n.invariant.items ∙ sym (items_more f heap names i item c.loop-n-test.true found);
      bounded = subst (All (IsBoundedBy 1)) (sym pushed) (All-push (IsBoundedBy 1) old item c.loop-n.invariant.bounded c.bare_item.ensures.bounded);
      few = subst (λ x. length x ≤ i + 1) (sym pushed) (omega (arith, length-append old (item ∷ []), c.loop-n.invariant.few));
    }
