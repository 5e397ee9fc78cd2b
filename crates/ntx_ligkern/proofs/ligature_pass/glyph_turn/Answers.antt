use Rattle.std.proofs.Common.{ℕ, List, reverse, slice_get, Some, sym, ◌∙◌, ap}
use Rattle.std.proofs.lemmas.Result.{err_from_is_err_and}
use Rattle.ntx_ligkern.specs.Ligatures.{lig_between}
use Rattle.ntx_ligkern.specs.inner.Cursors.{spot_of, spot_from}
use Rattle.ntx_ligkern.proofs.Ahead.{one_off}
use Rattle.ntx_ligkern.proofs.Measures.{step_less}
use Rattle.ntx_ligkern.proofs.ListTurns.{list_steps, list_stops}
use Rattle.ntx_ligkern.proofs.ligature_pass.glyph_turn.Goals as goal

pub returns-in_err-at-clause-done : goal.returns-in_err-at-clause-done
returns-in_err-at-clause-done g c =
    let h = g.N.Nodes.heap in
    let heap = h c.args.nodes.now in
    let items = c.args.ahead.now.items in
    let rest = c.pop.new.self.items in
    let at = c.args.cursor.at in
    let p = err_from_is_err_and c.from_residual.result c.from_residual.ensures.1 in
    rw (p.1, p.2) (list_stops c.args.fonts.now c.args.head (spot_of c.args.cursor items) c.in-Some.lig c.in-Some-pop.right (reverse rest) heap (h c.step.new.nodes) c.in_err-at.field-0.0 (sym c.requires)
    (c.in-Some.ensures ∙ ap (λ o. lig_between c.args.fonts.now heap (Some at) o) (c.nearest.ensures ∙ ap (λ (xs : List ℕ). slice_get (reverse xs) 0) c.deref.ensures.value))
    (one_off items rest c.in-Some-pop.right c.in-Some-pop.ensures.items) c.in_err-at.ensures)

pub returns-clause-done : goal.returns-clause-done
returns-clause-done g c =
    let h = g.N.Nodes.heap in
    let heap = h c.args.nodes.now in
    let items = c.args.ahead.now.items in
    let rest = c.pop.new.self.items in
    let at = c.args.cursor.at in
    list_steps c.args.fonts.now c.args.head (spot_of c.args.cursor items) c.in-Some.lig c.in-Some-pop.right (reverse rest) (spot_from c.step.new.ahead.items c.in_ok-at.at) heap (h c.step.new.nodes) (sym c.requires)
    (c.in-Some.ensures ∙ ap (λ o. lig_between c.args.fonts.now heap (Some at) o) (c.nearest.ensures ∙ ap (λ (xs : List ℕ). slice_get (reverse xs) 0) c.deref.ensures.value))
    (one_off items rest c.in-Some-pop.right c.in-Some-pop.ensures.items) c.in_ok-at.ensures

pub returns-clause-fewer : goal.returns-clause-fewer
returns-clause-fewer g c =
    let h = g.N.Nodes.heap in
    let items = c.args.ahead.now.items in
    let rest = c.pop.new.self.items in
    (step_less (spot_of c.args.cursor items) c.in-Some.lig c.in-Some-pop.right (reverse rest) (h c.args.nodes.now) (h c.step.new.nodes) (spot_from c.step.new.ahead.items c.in_ok-at.at)
    (one_off items rest c.in-Some-pop.right c.in-Some-pop.ensures.items) c.in_ok-at.ensures c.lawful.ensures.lawful.next).0

pub before_disc-requires-clause-lig : goal.before_disc-requires-clause-lig
before_disc-requires-clause-lig g c =
    let heap = g.N.Nodes.heap c.args.nodes.now in
    sym (c.in_default.ensures ∙ ap (λ o. lig_between c.args.fonts.now heap (Some c.args.cursor.at) o) (c.nearest.ensures ∙ ap (λ (xs : List ℕ). slice_get (reverse xs) 0) c.deref.ensures.value))
