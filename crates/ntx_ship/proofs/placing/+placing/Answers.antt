-- Lists are placed node by node, and boxes by their lists.
use Rattle.std.proofs.Common.{◌-◌, ◌≤◌, List, get_or, Ok, subst, ◌∙◌, arith}
use Rattle.std.proofs.lemmas.Result.{err_from_is_err_and}
use Rattle.ntx_nodes.specs.Heap.{Heap}
use Rattle.ntx_ship.specs.declared.station.Station.{Station}
use Rattle.ntx_ship.specs.Placed.{row_pieces, node_pieces, list_pieces}
use Rattle.ntx_ship.specs.inner.Adding.{Adds}
use Rattle.ntx_ship.proofs.Adds.{list_too_deep, list_row, row_more}
use Rattle.ntx_ship.proofs.Steps.{list_error, node_hlist, node_vlist, node_rule, node_glyph, node_disc, node_other, suc_less, no_station, row_fits}
use Rattle.ntx_ship.proofs.placing.+placing.Goals as goal

pub place_list-returns-then-levels-eq0-clause-adds : goal.place_list-returns-then-levels-eq0-clause-adds
place_list-returns-then-levels-eq0-clause-adds g t c =
    list_too_deep (g.N.Nodes.heap c.args.nodes.now) c.args.fonts.now c.args.levels c.args.inside c.args.here c.args.pieces.now.items c.args.pieces.now.items c.if-levels-eq0.true

pub place_list-returns-in_err-row-clause-adds : goal.place_list-returns-in_err-row-clause-adds
place_list-returns-in_err-row-clause-adds g t c =
    let p = err_from_is_err_and c.from_residual.result c.from_residual.ensures.1 in
    rw (p.1, p.2)
    (list_error (g.N.Nodes.heap c.args.nodes.now) c.args.fonts.now c.args.levels (c.args.levels - 1) c.args.inside c.args.here c.args.pieces.now.items c.args.pieces.now.items (suc_less c.args.levels c.if-levels-eq0.false) c.in_err-row.ensures.answer)

pub place_list-returns-clause-adds : goal.place_list-returns-clause-adds
place_list-returns-clause-adds g t c =
    let heap = g.N.Nodes.heap c.args.nodes.now in
    let lower = c.args.levels - 1 in
    let place = λ (h : Heap). list_pieces h c.args.fonts.now lower in
    let here = subst (λ (h : Heap). Adds c.place_row.result c.args.pieces.now.items c.place_row.new.pieces.items (row_pieces c.args.fonts.now (place h) c.args.inside.direction c.deref.result.now)) c.row_of.ensures.same c.place_row.ensures.adds in
    let row = subst (λ (ss : List Station). Adds c.place_row.result c.args.pieces.now.items c.place_row.new.pieces.items (row_pieces c.args.fonts.now (place heap) c.args.inside.direction ss)) c.deref.ensures.value here in
    list_row heap c.args.fonts.now c.args.levels lower c.args.inside c.args.here c.in_ok-row.row.items c.place_row.result c.args.pieces.now.items c.place_row.new.pieces.items (suc_less c.args.levels c.if-levels-eq0.false) c.in_ok-row.ensures.answer row

pub place_node-returns-in-Hlist-clause-adds : goal.place_node-returns-in-Hlist-clause-adds
place_node-returns-in-Hlist-clause-adds g t c =
    node_hlist c.args.fonts.now (list_pieces (g.N.Nodes.heap c.args.nodes.now) c.args.fonts.now (c.args.levels - 1)) c.args.direction c.in-Hlist.b c.in_hlist.result c.args.station.contents c.reference-at.result c.args.station.here c.in-Hlist.is c.in_hlist.ensures c.reference-at.ensures c.place_box.ensures.adds

pub place_node-returns-in-Vlist-clause-adds : goal.place_node-returns-in-Vlist-clause-adds
place_node-returns-in-Vlist-clause-adds g t c =
    node_vlist c.args.fonts.now (list_pieces (g.N.Nodes.heap c.args.nodes.now) c.args.fonts.now (c.args.levels - 1)) c.args.direction c.in-Vlist.b c.in_vlist.result c.args.station.contents c.top-at.result c.args.station.here c.in-Vlist.is c.in_vlist.ensures (rw c.reference.ensures at c.top-at.ensures) c.place_box-in-Vlist.ensures.adds

pub place_node-returns-in-Rule-clause-adds : goal.place_node-returns-in-Rule-clause-adds
place_node-returns-in-Rule-clause-adds g t c =
    node_rule c.args.fonts.now (list_pieces (g.N.Nodes.heap c.args.nodes.now) c.args.fonts.now (c.args.levels - 1)) c.args.direction c.in-Rule.r c.args.station.contents c.args.station.here c.in-Rule.is c.place_rule.ensures

pub place_node-returns-in-Glyph-clause-adds : goal.place_node-returns-in-Glyph-clause-adds
place_node-returns-in-Glyph-clause-adds g t c =
    node_glyph c.args.fonts.now (list_pieces (g.N.Nodes.heap c.args.nodes.now) c.args.fonts.now (c.args.levels - 1)) c.args.direction c.in-Glyph.g c.args.station.contents c.args.station.here c.in-Glyph.is c.place_glyph.ensures

pub place_node-returns-in-Disc-clause-adds : goal.place_node-returns-in-Disc-clause-adds
place_node-returns-in-Disc-clause-adds g t c =
    node_disc c.args.fonts.now (list_pieces (g.N.Nodes.heap c.args.nodes.now) c.args.fonts.now (c.args.levels - 1)) c.args.direction c.in-Disc.d c.in_part-part.result c.args.station.contents c.args.station.here c.in-Disc.is c.in_part-part.ensures c.place_list.ensures.adds

pub place_node-returns-in_default-clause-adds : goal.place_node-returns-in_default-clause-adds
place_node-returns-in_default-clause-adds g t c =
    node_other tt c.args.pieces.now.items c.args.fonts.now (list_pieces (g.N.Nodes.heap c.args.nodes.now) c.args.fonts.now (c.args.levels - 1)) c.args.direction c.args.station.contents c.args.station.here c.in_default.not-Hlist c.in_default.not-Vlist c.in_default.not-Rule c.in_default.not-Disc c.in_default.not-Glyph

pub place_row-loop-station-preserved : goal.place_row-loop-station-preserved
place_row-loop-station-preserved g t c =
    let heap = g.N.Nodes.heap c.args.nodes.now in
    let inv = c.loop-station.invariant in
    let station = get_or c.args.row.now c.loop-station.station-index no_station in
    let adds = subst (λ (h : Heap). Adds (Ok c.in_ok-place_node.field-0) c.loop-station.pieces.items c.place_node.new.pieces.items (node_pieces c.args.fonts.now (list_pieces h c.args.fonts.now (c.args.levels - 1)) c.args.direction station.contents station.here)) inv.same c.in_ok-place_node.ensures.adds in
    record {
      same = c.place_node.ensures.same ∙ inv.same;
      whole = row_more c.args.fonts.now (list_pieces heap c.args.fonts.now (c.args.levels - 1)) c.args.direction c.args.row.now c.loop-station.station-index no_station c.in_ok-place_node.field-0 c.args.pieces.now.items c.loop-station.pieces.items c.place_node.new.pieces.items _ c.loop-station-test.true inv.whole adds;
    }

pub place_list-place_row-requires : goal.place_list-place_row-requires
place_list-place_row-requires g t c = λ κs here.
    let least : 1 ≤ c.args.levels = omega (arith, c.if-levels-eq0.false) in (
      omega (arith, c.decreases, least),
      (
        here,
        (least, (c.requires.levels, row_fits c.args.levels c.args.here c.in_ok-row.row.items c.deref.result.now c.deref.ensures.value c.in_ok-row.ensures.within c.requires.place)),
      ),
    )
