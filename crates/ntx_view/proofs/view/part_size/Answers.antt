-- proofs/view/part_size/Answers.antt
use Rattle.std.proofs.Common.{◌≤◌, ◌*◌, length, subst, sym, ap, arith}
use Rattle.std.specs.List.{sum_by}
use Rattle.ntx_num.specs.Dimension.{max_dimension}
use Rattle.ntx_item.specs.Items.{AreItemsInRange, absolute_width}
use Rattle.ntx_view.specs.Bounds.{list_length}
use Rattle.ntx_view.specs.View.{names_in}
use Rattle.ntx_view.proofs.Lists.{bounded_in_range, bounded_width}
use Rattle.ntx_view.proofs.view.part_size.Goals as goal

pub hlist_size-requires-clause-in_range : goal.hlist_size-requires-clause-in_range
hlist_size-requires-clause-in_range g c =
    let few = subst (λ x. length c.in_ok-items.items.items ≤ length x) c.deref.ensures.value c.in_ok-items.ensures.few in
    subst AreItemsInRange (sym c.deref-2.ensures.value) (bounded_in_range c.in_ok-items.items.items c.in_ok-items.ensures.bounded (omega (arith, few, c.in_ok-names.ensures.few)))

pub returns-clause-width : goal.returns-clause-width
returns-clause-width g c =
    let n = list_length (g.N.Nodes.heap c.args.nodes.now) c.args.to in
    let few = subst (λ x. length c.in_ok-items.items.items ≤ length x) c.deref.ensures.value c.in_ok-items.ensures.few in
    let all = subst (λ k. length c.in_ok-items.items.items ≤ k) (sym (ap (λ x. length (names_in x)) c.in_ok-names.ensures.names)) few in
    let w : sum_by absolute_width c.deref-2.result.now ≤ n * max_dimension =
    subst (λ items. sum_by absolute_width items ≤ n * max_dimension) (sym c.deref-2.ensures.value) (bounded_width c.in_ok-items.items.items n c.in_ok-items.ensures.bounded all) in
    omega (arith, c.hlist_size.ensures.width)
