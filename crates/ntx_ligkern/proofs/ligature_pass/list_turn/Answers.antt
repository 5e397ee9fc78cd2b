use Rattle.std.proofs.Common.{[], ◌∷◌, reverse, arith}
use Rattle.std.proofs.lemmas.Result.{err_from_is_err_and}
use Rattle.ntx_ligkern.specs.Ligaturing.{AtDisc, InList, from_spot}
use Rattle.ntx_ligkern.specs.inner.Cursors.{spot_of, spot_from}
use Rattle.ntx_ligkern.proofs.Turning.{on_and_on, on_and_to}
use Rattle.ntx_ligkern.proofs.Measures.{disc_less}
use Rattle.ntx_ligkern.proofs.ListTurns.{at_disc_goes}
use Rattle.ntx_ligkern.proofs.ligature_pass.list_turn.Goals as goal

pub returns-in_err-at-clause-done : goal.returns-in_err-at-clause-done
returns-in_err-at-clause-done g c =
    let h = g.N.Nodes.heap in
    let heap = h c.args.nodes.now in
    let items = c.args.ahead.now.items in
    let spot = spot_of c.args.cursor items in
    let p = err_from_is_err_and c.from_residual.result c.from_residual.ensures.1 in
    rw (p.1, p.2) (on_and_to c.args.fonts.now c.args.head c.args.head (InList spot ∷ []) (AtDisc c.args.cursor.at (reverse items) ∷ []) heap heap c.in_err-at.field-0.0 (h c.ligature_disc.new.nodes)
    (at_disc_goes c.args.fonts.now c.args.head spot c.in-Some._disc heap c.in-Some.ensures) (c.in_err-at.ensures.done c.args.head))

pub returns-clause-done : goal.returns-clause-done
returns-clause-done g c =
    let h = g.N.Nodes.heap in
    let heap = h c.args.nodes.now in
    let head = c.args.head in
    let items = c.args.ahead.now.items in
    let spot = spot_of c.args.cursor items in
    on_and_on c.args.fonts.now head head head (InList spot ∷ []) (AtDisc c.args.cursor.at (reverse items) ∷ []) (from_spot InList (spot_from c.ligature_disc.new.ahead.items c.in_ok-at.at)) heap heap (h c.ligature_disc.new.nodes)
    (at_disc_goes c.args.fonts.now head spot c.in-Some._disc heap c.in-Some.ensures) (c.in_ok-at.ensures.done head)

pub returns-clause-fewer : goal.returns-clause-fewer
returns-clause-fewer g c =
    let h = g.N.Nodes.heap in
    let items = c.args.ahead.now.items in
    disc_less c.args.cursor items items c.ligature_disc.new.ahead.items c.in_ok-at.at (h c.args.nodes.now) (h c.ligature_disc.new.nodes) (omega arith) c.in_ok-at.ensures.fewer c.in_ok-at.ensures.later
