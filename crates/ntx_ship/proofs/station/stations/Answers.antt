-- One node after another.
use Rattle.std.proofs.Common.{◌≡◌, ◌+◌, ◌≤◌, ◌<◌, ◌^◌, ℤ, ◌+ℤ◌, length, get_or, to_z, of_z, w64, subst, sym, ap, ◌∙◌, arith}
use Rattle.std.specs.List.{All}
use Rattle.std.proofs.lemmas.List.Elements.{All-push, All-get_or}
use Rattle.ntx_item.proofs.ItemsLemmas.{parts_are_in_range}
use Rattle.std.specs.Int.RustNames.{unsigned_abs}
use Rattle.ntx_item.specs.Items.{absolute_width, IsBounded, max_total}
use Rattle.ntx_view.specs.Measured.{IsMeasured}
use Rattle.ntx_view.proofs.Sizes.{past_end}
use Rattle.ntx_pack.specs.Output.{move}
use Rattle.ntx_pack.specs.declared.glue_set.GlueSet.{GlueSet}
use Rattle.ntx_ship.specs.declared.station.Station.{Station}
use Rattle.ntx_ship.specs.Placed.{moved}
use Rattle.ntx_ship.specs.inner.Reach.{StandsWithin}
use Rattle.ntx_ship.proofs.Rows.{stations_next, stations_end, stations_stop}
use Rattle.ntx_ship.proofs.Reaches.{is_placed, total_within, nearer, near_enough, running_more}
use Rattle.ntx_ship.proofs.Marks.{exact}
use Rattle.ntx_ship.proofs.station.stations.Goals as goal

pub returns-in-Err-clause-answer : goal.returns-in-Err-clause-answer
returns-in-Err-clause-answer g c = λ fonts are.
    c.loop-i.invariant.whole fonts are
    ∙ stations_stop (g.N.Nodes.heap c.args.nodes.now) fonts c.args.inside c.args.names.now c.loop-i.i c.loop-i.setter.total c.loop-i.at c.loop-i.all.items c.in-Err.why c.loop-i-test.true (sym c.contents_of.ensures.value ∙ c.in-Err.is)

pub returns-clause-answer : goal.returns-clause-answer
returns-clause-answer g c = λ fonts are.
    c.loop-i.invariant.whole fonts are
    ∙ stations_end (g.N.Nodes.heap c.args.nodes.now) fonts c.args.inside c.args.names.now c.loop-i.i c.loop-i.setter.total c.loop-i.at c.loop-i.all.items c.loop-i-test.false

pub set_size-requires-clause-measured : goal.set_size-requires-clause-measured
set_size-requires-clause-measured g c = All-get_or IsMeasured c.args.items.now c.loop-i.i past_end (omega (arith, c.loop-i-test.true, c.requires.count)) c.requires.measured

pub set_size-requires-clause-bounded : goal.set_size-requires-clause-bounded
set_size-requires-clause-bounded g c = All-get_or IsBounded c.args.items.now c.loop-i.i past_end (omega (arith, c.loop-i-test.true, c.requires.count)) (parts_are_in_range.each c.args.items.now c.requires.in_range)

pub set_size-requires-clause-total : goal.set_size-requires-clause-total
set_size-requires-clause-total g c =
    let within : c.loop-i.i < length c.args.items.now = omega (arith, c.loop-i-test.true, c.requires.count) in
    subst (λ (set : GlueSet). unsigned_abs (c.loop-i.setter.total +ℤ move set (get_or c.args.items.now c.loop-i.i past_end)) ≤ max_total) (sym c.loop-i.invariant.glue)
    (total_within c.args.inside.glue c.args.items.now c.loop-i.i past_end c.loop-i.setter.total within c.requires.in_range c.loop-i.invariant.total)

pub moved-at-requires-clause-place : goal.moved-at-requires-clause-place
moved-at-requires-clause-place g c =
    let within : c.loop-i.i < length c.args.items.now = omega (arith, c.loop-i-test.true, c.requires.count) in
    is_placed (2 ^ 60 + 2 ^ 51) (2 ^ 61) c.loop-i.at
    (near_enough c.args.items.now c.loop-i.i (2 ^ 60) c.loop-i.at (omega (arith, within)) c.requires.in_range (c.loop-i.invariant.near (2 ^ 60) c.requires.place))
    (omega arith)

pub loop-i-preserved : goal.loop-i-preserved
loop-i-preserved g c =
    let items = c.args.items.now in
    let i = c.loop-i.i in
    let item = get_or items i past_end in
    let inv = c.loop-i.invariant in
    let within : i < length items = omega (arith, c.loop-i-test.true, c.requires.count) in
    let station : Station = record { contents = c.in-Ok.contents; here = c.loop-i.at } in
    let pushed = c.in_ok-push.ensures.items in
    let size = c.set_size.result in
    let bounded : unsigned_abs size ≤ absolute_width item + 2 ^ 32 = c.set_size.ensures.bounded in
    let wide : absolute_width item ≤ max_total = (All-get_or IsBounded items i past_end within (parts_are_in_range.each items c.requires.in_range)).width in
    let same : to_z w64 (of_z w64 size) ≡ size = exact size (omega (arith, bounded, wide)) in
    let moves : c.moved-at.result ≡ moved c.args.inside.direction size c.loop-i.at = c.moved-at.ensures ∙ ap (λ (x : ℤ). moved c.args.inside.direction x c.loop-i.at) same in
    record {
      glue = c.set_size.ensures.glue ∙ inv.glue;
      total =
          c.set_size.ensures.total ∙ ap (λ (set : GlueSet). c.loop-i.setter.total +ℤ move set item) inv.glue
          ∙ ap (λ (t : ℤ). t +ℤ move c.args.inside.glue item) inv.total ∙ sym (running_more c.args.inside.glue items i past_end within);
      near = λ most placed. nearer c.args.inside.direction items i past_end most c.set_size.result c.loop-i.at c.moved-at.result within (inv.near most placed) bounded moves;
      within = λ most placed.
          subst (All (StandsWithin (most + 2 ^ 51))) (sym pushed)
          (All-push (StandsWithin (most + 2 ^ 51)) c.loop-i.all.items station (inv.within most placed)
          (record { place = near_enough items i most c.loop-i.at (omega (arith, within)) c.requires.in_range (inv.near most placed); ranges = c.in-Ok.ensures.ranges }));
      whole = λ fonts are.
          inv.whole fonts are
          ∙ stations_next (g.N.Nodes.heap c.args.nodes.now) fonts c.args.inside c.args.names.now items i past_end c.loop-i.setter.total c.loop-i.at c.in-Ok.contents c.loop-i.all.items c.loop-i.setter.glue c.set_size.result c.set_size.new.setter.total c.moved-at.result c.push.new.self.items
          c.loop-i-test.true are (sym c.contents_of.ensures.value ∙ c.in-Ok.is) inv.glue c.set_size.ensures.size c.set_size.ensures.total moves pushed;
    }
