use Rattle.std.proofs.Common.{◌<◌, ◌≤◌, [], ◌∷◌, reverse, sym, subst, arith}
use Rattle.std.specs.Prelude.{Option}
use Rattle.std.proofs.lemmas.Result.{err_from_is_err_and}
use Rattle.ntx_ligkern.specs.Ligaturing.{OfDisc}
use Rattle.ntx_ligkern.specs.declared.cursor.Cursor.{Cursor}
use Rattle.ntx_ligkern.specs.inner.Cursors.{spot_of, spot_from}
use Rattle.ntx_ligkern.specs.inner.Chores.{left_from}
use Rattle.ntx_ligkern.proofs.Turning.{memory_out}
use Rattle.ntx_ligkern.proofs.Measures.{part_less}
use Rattle.ntx_ligkern.proofs.DiscTurns.{part_begins, part_goes, part_stops}
use Rattle.ntx_ligkern.proofs.parts.ligature_part.Goals as goal

pub returns-in_err-ahead-clause-done : goal.returns-in_err-ahead-clause-done
returns-in_err-ahead-clause-done g c =
    let p = err_from_is_err_and c.from_residual.result c.from_residual.ensures.1 in
    rw (p.1, p.2) (λ head. memory_out c.args.fonts.now head (OfDisc c.args.disc c.args.f ∷ []) (g.N.Nodes.heap c.args.nodes.now))

pub loop-at-init : goal.loop-at-init
loop-at-init g c =
    let heap = g.N.Nodes.heap c.args.nodes.now in
    record {
      runs = λ head. part_begins c.args.fonts.now head c.args.disc c.args.f heap (reverse c.in_ok-ahead.ahead.items) (spot_from c.take_next-at.new.ahead.items c.take_next-at.result) c.in_ok-ahead.ensures c.take_next-at.ensures;
      later = omega arith;
    }

pub returns-in_err-at-clause-done : goal.returns-in_err-at-clause-done
returns-in_err-at-clause-done g c =
    let h = g.N.Nodes.heap in
    let p = err_from_is_err_and c.from_residual-in_err-at.result c.from_residual-in_err-at.ensures.1 in
    rw (p.1, p.2) (λ head. part_stops c.args.fonts.now head (OfDisc c.args.disc c.args.f ∷ []) (h c.args.nodes.now) (h c.loop-at.nodes) (h c.part_turn.new.nodes) c.loop-at.ahead.items c.loop-at.at c.in-Some.cursor c.in_err-at.field-0.0
    c.in-Some.is (c.loop-at.invariant.runs head) c.in_err-at.ensures)

pub loop-at-smaller : goal.loop-at-smaller
loop-at-smaller g c =
    let h = g.N.Nodes.heap in
    let heap = h c.loop-at.nodes in
    let new = h c.part_turn.new.nodes in
    let items = c.loop-at.ahead.items in
    let next = spot_from c.part_turn.new.ahead.items c.in_ok-at.at in
    subst (λ (o : Option Cursor). left_from new next < left_from heap (spot_from items o)) (sym c.in-Some.is)
    (part_less c.args.fonts.now (spot_of c.in-Some.cursor items) heap new next c.in_ok-at.ensures c.lawful.ensures.lawful.next).0

pub loop-at-preserved : goal.loop-at-preserved
loop-at-preserved g c =
    let h = g.N.Nodes.heap in
    let first = h c.args.nodes.now in
    let heap = h c.loop-at.nodes in
    let new = h c.part_turn.new.nodes in
    let items = c.loop-at.ahead.items in
    let next = spot_from c.part_turn.new.ahead.items c.in_ok-at.at in
    let before : first.next ≤ heap.next = c.loop-at.invariant.later in
    let rises : heap.next ≤ new.next = (part_less c.args.fonts.now (spot_of c.in-Some.cursor items) heap new next c.in_ok-at.ensures c.lawful.ensures.lawful.next).1 in
    record {
      runs = λ head. part_goes c.args.fonts.now head (OfDisc c.args.disc c.args.f ∷ []) first heap new items c.loop-at.at c.in-Some.cursor next c.in-Some.is (c.loop-at.invariant.runs head) c.in_ok-at.ensures;
      later = omega arith;
    }
