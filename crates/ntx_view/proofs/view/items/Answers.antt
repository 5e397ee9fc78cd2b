-- proofs/view/items/Answers.antt
-- The items are measured from nodes that the walk reached, each once, and no walk reaches more than may be live.
use Rattle.std.proofs.Common.{◌≤◌, [], length, map, slice_get, IsOk, refl, subst, sym, ap, ◌∙◌, arith}
use Rattle.std.specs.List.{All, sum_by}
use Rattle.std.proofs.lemmas.List.{length-map}
use Rattle.ntx_num.specs.Dimension.{max_nodes}
use Rattle.ntx_nodes.specs.Walk.{flat_walk}
use Rattle.ntx_nodes.specs.declared.kind.Way.TheVariants.{Checked, Flat}
use Rattle.ntx_nodes.specs.declared.kind.ListKind.TheVariants.{H}
use Rattle.ntx_view.specs.Bounds.{AreBoundedBy, weight_at}
use Rattle.ntx_view.specs.View.{nodes_named, item_of, PartsEndAt}
use Rattle.ntx_view.specs.Measured.{IsMeasured}
use Rattle.ntx_view.proofs.Measures.{measured_names}
use Rattle.ntx_nodes.specs.WalkLaws.{AreFresh}
use Rattle.ntx_num.proofs.Answers.{same_Ok}
use Rattle.ntx_nodes.specs.declared.trouble.Trouble.{Trouble}
use Rattle.ntx_view.proofs.Counts.{measured, sound_few}
use Rattle.ntx_view.proofs.Lists.{bounded_items_in_range, nodes_found, item_found}
use Rattle.ntx_view.proofs.view.items.Goals as goal

pub returns-clause-in_range : goal.returns-clause-in_range
returns-clause-in_range g c =
    let heap = g.N.Nodes.heap c.args.nodes.now in
    let head = c.args.head in
    let names = c.in_ok-names.names.items in
    let items = c.in_ok-items_of.field-0.items in
    let m = measured heap head c.args.k names c.in_ok-names.ensures.answer in
    let few : length names ≤ max_nodes =
    sound_few heap Checked head names c.lawful.ensures.lawful (c.walks_are_sound.ensures heap Checked [] head 0 c.args.k names c.in_ok-names.ensures.answer) in
    let checked = c.in_ok-names.ensures.same in
    let along = c.deref-2.ensures.value ∙ same_Ok {E = Trouble} c.in_ok-along.along.items m.along (sym c.in_ok-along.ensures.names ∙ ap (λ x. flat_walk x head) checked ∙ m.walks) in
    let bounded : AreBoundedBy heap m.along items =
    subst (λ x. AreBoundedBy heap x items) along (subst (λ x. AreBoundedBy x c.deref-2.result.now items) (c.in_ok-along.ensures.same ∙ checked) c.in_ok-items_of.ensures.bounded) in
    let counts : length m.along ≤ length names = m.counts in
    let weighs : sum_by (weight_at heap) m.along ≤ length names = m.weighs in
    bounded_items_in_range heap m.along items bounded (omega arith) (omega arith)

pub returns-clause-one_each : goal.returns-clause-one_each
returns-clause-one_each g c =
    let heap = g.N.Nodes.heap c.args.nodes.now in
    let head = c.args.head in
    let fonts = c.args.fonts.now in
    let m = measured heap head c.args.k c.in_ok-names.names.items c.in_ok-names.ensures.answer in
    let s = c.walks_are_sound.ensures heap Flat [] head 0 H m.along m.walks in
    let fresh = subst (AreFresh heap []) (sym s.added) s.fresh in
    let same = c.in_ok-along.ensures.same ∙ c.in_ok-names.ensures.same in
    let along = c.deref-2.ensures.value ∙ same_Ok {E = Trouble} c.in_ok-along.along.items m.along (sym c.in_ok-along.ensures.names ∙ ap (λ x. flat_walk x head) c.in_ok-names.ensures.same ∙ m.walks) in
    let all = c.in_ok-items_of.ensures.items ∙ ap (λ h. map (item_of h fonts) (nodes_named h c.deref-2.result.now)) same ∙ ap (λ x. map (item_of heap fonts) (nodes_named heap x)) along in
    record {
      names = m.along;
      walk = m.walks;
      parts = m.parts;
      count = ap length all ∙ length-map (nodes_named heap m.along) (item_of heap fonts) ∙ nodes_found heap [] m.along fresh;
      each = λ k n e. ap (λ x. slice_get x k) all ∙ item_found (item_of heap fonts) heap [] m.along fresh k n e;
    }

pub names_along-requires : goal.names_along-requires
names_along-requires g c =
    let m = measured (g.N.Nodes.heap c.args.nodes.now) c.args.head c.args.k c.in_ok-names.names.items c.in_ok-names.ensures.answer in
    subst (λ h. IsOk (flat_walk h c.args.head)) (sym c.in_ok-names.ensures.same) (subst IsOk (sym m.walks) refl)

pub items_of-requires-clause-parts : goal.items_of-requires-clause-parts
items_of-requires-clause-parts g c =
    let heap = g.N.Nodes.heap c.args.nodes.now in
    let head = c.args.head in
    let m = measured heap head c.args.k c.in_ok-names.names.items c.in_ok-names.ensures.answer in
    let same = c.in_ok-along.ensures.same ∙ c.in_ok-names.ensures.same in
    let along = c.deref-2.ensures.value ∙ same_Ok {E = Trouble} c.in_ok-along.along.items m.along (sym c.in_ok-along.ensures.names ∙ ap (λ x. flat_walk x head) c.in_ok-names.ensures.same ∙ m.walks) in
    subst (λ h. All (PartsEndAt h) c.deref-2.result.now) (sym same) (subst (All (PartsEndAt heap)) (sym along) m.parts)

pub returns-clause-measured : goal.returns-clause-measured
returns-clause-measured g c =
    let heap = g.N.Nodes.heap c.args.nodes.now in
    let same = c.in_ok-along.ensures.same ∙ c.in_ok-names.ensures.same in
    let all = c.in_ok-items_of.ensures.items ∙ ap (λ h. map (item_of h c.args.fonts.now) (nodes_named h c.deref-2.result.now)) same in
    subst (All IsMeasured) (sym all) (measured_names heap c.args.fonts.now c.deref-2.result.now c.lawful.ensures.lawful)
