-- The items and the names that were found are those of one list.
use Rattle.std.proofs.Common.{◌≡◌, ℕ, pos, List, length, Ok, subst, sym, ap, ◌∙◌}
use Rattle.std.specs.List.{All}
use Rattle.std.proofs.lemmas.Result.{err_from_is_err_and}
use Rattle.ntx_num.specs.Answer.{Answers, result_map}
use Rattle.ntx_nodes.specs.Heap.{Heap}
use Rattle.ntx_nodes.specs.Walk.{flat_walk}
use Rattle.ntx_item.specs.declared.item.Item.{Item}
use Rattle.ntx_item.specs.Items.{AreItemsInRange}
use Rattle.ntx_view.specs.Measured.{IsMeasured}
use Rattle.ntx_ship.specs.Placed.{stations}
use Rattle.ntx_ship.specs.inner.Reach.{AreItemsOf}
use Rattle.ntx_ship.proofs.Rows.{refused_by_items, refused_by_walk, row_found, items_named}
use Rattle.ntx_ship.proofs.placing.row_of.Goals as goal

pub returns-in_err-seen-clause-answer : goal.returns-in_err-seen-clause-answer
returns-in_err-seen-clause-answer g c =
    let p = err_from_is_err_and c.from_residual.result c.from_residual.ensures.1 in
    rw (p.1, p.2) (refused_by_items (g.N.Nodes.heap c.args.nodes.now) c.args.fonts.now c.args.inside c.args.here _ c.in_err-seen.ensures.answer)

pub returns-in_err-names-clause-answer : goal.returns-in_err-names-clause-answer
returns-in_err-names-clause-answer g c =
    let p = err_from_is_err_and c.from_residual-in_err-names.result c.from_residual-in_err-names.ensures.1 in
    rw (p.1, p.2)
    (refused_by_walk _ (g.N.Nodes.heap c.args.nodes.now) (g.N.Nodes.heap c.items.new.nodes) c.args.fonts.now c.args.inside c.args.here c.in_ok-seen.seen.items c.items.ensures.same c.in_ok-seen.ensures.answer c.in_err-names.ensures.answer)

pub stations-requires-clause-count : goal.stations-requires-clause-count
stations-requires-clause-count g c =
    let walks = subst (λ (h : Heap). flat_walk h c.args.inside.head ≡ Ok c.in_ok-names.names.items) c.items.ensures.same c.in_ok-names.ensures.answer in
    let are = items_named (g.N.Nodes.heap c.args.nodes.now) c.args.fonts.now c.args.inside.head c.in_ok-seen.seen.items c.in_ok-names.names.items c.in_ok-seen.ensures.one_each walks in
    ap (λ (xs : List Item). length xs) c.deref-2.ensures.value ∙ are.count ∙ ap (λ (xs : List ℕ). length xs) (sym c.deref.ensures.value)

pub stations-requires-clause-in_range : goal.stations-requires-clause-in_range
stations-requires-clause-in_range g c = subst AreItemsInRange (sym c.deref-2.ensures.value) c.in_ok-seen.ensures.in_range

pub stations-requires-clause-measured : goal.stations-requires-clause-measured
stations-requires-clause-measured g c = subst (All IsMeasured) (sym c.deref-2.ensures.value) c.in_ok-seen.ensures.measured

pub returns-clause-answer : goal.returns-clause-answer
returns-clause-answer g c =
    let heap = g.N.Nodes.heap c.args.nodes.now in
    let fonts = c.args.fonts.now in
    let inside = c.args.inside in
    let seen = c.in_ok-seen.seen.items in
    let names = c.in_ok-names.names.items in
    let same = c.names_reached.ensures.same ∙ c.items.ensures.same in
    let walks = subst (λ (h : Heap). flat_walk h inside.head ≡ Ok names) c.items.ensures.same c.in_ok-names.ensures.answer in
    let one = items_named heap fonts inside.head seen names c.in_ok-seen.ensures.one_each walks in
    let are =
    subst (λ (xs : List Item). AreItemsOf (g.N.Nodes.heap c.names_reached.new.nodes) fonts c.deref.result.now xs) (sym c.deref-2.ensures.value)
    (subst (λ (ns : List ℕ). AreItemsOf (g.N.Nodes.heap c.names_reached.new.nodes) fonts ns seen) (sym c.deref.ensures.value)
    (subst (λ (h : Heap). AreItemsOf h fonts names seen) (sym same) one)) in
    let row =
    row_found heap fonts inside c.args.here seen names c.in_ok-seen.ensures.answer walks
    ∙ ap (λ (h : Heap). stations h fonts inside names (pos 0) c.args.here) (sym same)
    ∙ ap (λ (ns : List ℕ). stations (g.N.Nodes.heap c.names_reached.new.nodes) fonts inside ns (pos 0) c.args.here) (sym c.deref.ensures.value) in
    subst (Answers (result_map (λ all. all.items) c.stations.result)) (sym row) (c.stations.ensures.answer fonts are)
