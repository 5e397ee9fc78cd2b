-- proofs/view/items_of/Answers.antt
use Rattle.std.proofs.Common.{◌≡◌, ◌+◌, ◌++◌, [], ◌∷◌, Some, take, get_or, subst, sym, ap, ◌∙◌}
use Rattle.ntx_view.specs.Bounds.{IsBoundedBy, AreBoundedBy, weight_at}
use Rattle.ntx_view.specs.View.{item_of, item_at}
use Rattle.ntx_view.proofs.Lists.{items_more, bounded_more}
use Rattle.ntx_view.proofs.view.items_of.Goals as goal

pub loop-n-preserved : goal.loop-n-preserved
loop-n-preserved g c =
    let heap = g.N.Nodes.heap c.args.nodes.now in
    let names = c.args.names.now in
    let i = c.loop-n.n-index in
    let n = get_or names i 0 in
    let item = c.in_ok-item.item in
    let same = c.loop-n.invariant.same in
    let pushed = c.in_ok-push.ensures.items in
    let old = c.loop-n.items.items in
    let found = subst (λ h. item_at h c.args.fonts.now n ≡ Some item) same c.in_ok-item.ensures.item in
    record {
      same = c.in_ok-item.ensures.same ∙ same;
      items = pushed ∙ ap (λ x. x ++ item ∷ []) c.loop-n.invariant.items ∙ sym (items_more (item_of heap c.args.fonts.now) heap names i item c.loop-n-test.true found);
      bounded = subst (AreBoundedBy heap (take (i + 1) names)) (sym pushed)
          (bounded_more heap names old i item c.loop-n-test.true c.loop-n.invariant.bounded (subst (λ h. IsBoundedBy (weight_at h n) item) same c.in_ok-item.ensures.bounded));
    }
