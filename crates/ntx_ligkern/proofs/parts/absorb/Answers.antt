use Rattle.std.proofs.Common.{ℕ, List, [], ◌∷◌, reverse, slice_get, Some, sym, ◌∙◌, ap}
use Rattle.std.proofs.lemmas.Result.{err_from_is_err_and}
use Rattle.ntx_ligkern.specs.Ligatures.{lig_between}
use Rattle.ntx_ligkern.specs.Ligaturing.{AtDisc}
use Rattle.ntx_ligkern.proofs.Ahead.{one_off}
use Rattle.ntx_ligkern.proofs.Turning.{memory_out}
use Rattle.ntx_ligkern.proofs.DiscTurns.{stays_out_last, stays_out_lig, draw_stops, draw_goes, drawn_in, drawn_stops}
use Rattle.ntx_ligkern.proofs.parts.absorb.Goals as goal

pub returns-in_err-last-clause-done : goal.returns-in_err-last-clause-done
returns-in_err-last-clause-done g c =
    let h = g.N.Nodes.heap in
    let p = err_from_is_err_and c.from_residual.result c.from_residual.ensures.1 in
    rw (p.1, p.2) (λ head. memory_out c.args.fonts.now head (AtDisc c.args.disc (reverse c.args.ahead.now.items) ∷ []) (h c.args.nodes.now))

pub returns-in_default-clause-done : goal.returns-in_default-clause-done
returns-in_default-clause-done g c =
    let is = c.in_default.is in
    let gives = c.in_ok-last.ensures in
    λ head. stays_out_last c.args.fonts.now head c.args.disc (reverse c.args.ahead.now.items) (g.N.Nodes.heap c.args.nodes.now) (sym is ∙ gives)

pub returns-in_default-lig_between-clause-done : goal.returns-in_default-lig_between-clause-done
returns-in_default-lig_between-clause-done g c =
    let heap = g.N.Nodes.heap c.args.nodes.now in
    let last = c.in-Some.last in
    λ head. stays_out_lig c.args.fonts.now head c.args.disc last (reverse c.args.ahead.now.items) heap (sym c.in-Some.is ∙ c.in_ok-last.ensures)
    (c.in_default-lig_between.ensures ∙ ap (λ o. lig_between c.args.fonts.now heap (Some last) o) (c.nearest.ensures ∙ ap (λ (xs : List ℕ). slice_get (reverse xs) 0) c.deref.ensures.value))

pub returns-in_err-draw_after-clause-done : goal.returns-in_err-draw_after-clause-done
returns-in_err-draw_after-clause-done g c =
    let h = g.N.Nodes.heap in
    let heap = h c.args.nodes.now in
    let last = c.in-Some.last in
    let items = c.args.ahead.now.items in
    let rest = c.pop.new.self.items in
    let p = err_from_is_err_and c.from_residual-in_err-draw_after.result c.from_residual-in_err-draw_after.ensures.1 in
    rw (p.1, p.2) (λ head. draw_stops c.args.fonts.now head c.args.disc last c.in-Some-pop.next c.in-Some-lig_between._lig (reverse items) (reverse rest) c.nearest-2.result heap (h c.draw_after.new.nodes) c.in_err-draw_after.field-0.0
    (sym c.in-Some.is ∙ c.in_ok-last.ensures)
    (c.in-Some-lig_between.ensures ∙ ap (λ o. lig_between c.args.fonts.now heap (Some last) o) (c.nearest.ensures ∙ ap (λ (xs : List ℕ). slice_get (reverse xs) 0) c.deref.ensures.value))
    (one_off items rest c.in-Some-pop.next c.in-Some-pop.ensures.items)
    (c.nearest-2.ensures ∙ ap (λ (xs : List ℕ). slice_get (reverse xs) 0) c.deref-2.ensures.value)
    c.in_err-draw_after.ensures)

pub returns-in_err-ligature_part-clause-done : goal.returns-in_err-ligature_part-clause-done
returns-in_err-ligature_part-clause-done g c =
    let h = g.N.Nodes.heap in
    let heap = h c.args.nodes.now in
    let last = c.in-Some.last in
    let items = c.args.ahead.now.items in
    let rest = c.pop.new.self.items in
    let mid = h c.draw_after.new.nodes in
    let p = err_from_is_err_and c.from_residual-in_err-ligature_part.result c.from_residual-in_err-ligature_part.ensures.1 in
    rw (p.1, p.2) (λ head. drawn_stops c.args.fonts.now head c.args.disc (reverse items) (reverse rest) heap mid (h c.ligature_part.new.nodes) c.in_err-ligature_part.field-0.0
    (draw_goes c.args.fonts.now head c.args.disc last c.in-Some-pop.next c.in-Some-lig_between._lig (reverse items) (reverse rest) c.nearest-2.result heap mid
    (sym c.in-Some.is ∙ c.in_ok-last.ensures)
    (c.in-Some-lig_between.ensures ∙ ap (λ o. lig_between c.args.fonts.now heap (Some last) o) (c.nearest.ensures ∙ ap (λ (xs : List ℕ). slice_get (reverse xs) 0) c.deref.ensures.value))
    (one_off items rest c.in-Some-pop.next c.in-Some-pop.ensures.items)
    (c.nearest-2.ensures ∙ ap (λ (xs : List ℕ). slice_get (reverse xs) 0) c.deref-2.ensures.value)
    c.in_ok-draw_after.ensures)
    (c.in_err-ligature_part.ensures.done head))

pub returns-clause-done : goal.returns-clause-done
returns-clause-done g c =
    let h = g.N.Nodes.heap in
    let heap = h c.args.nodes.now in
    let last = c.in-Some.last in
    let items = c.args.ahead.now.items in
    let rest = c.pop.new.self.items in
    let mid = h c.draw_after.new.nodes in
    λ head. drawn_in c.args.fonts.now head c.args.disc (reverse items) (reverse rest) heap mid (h c.ligature_part.new.nodes)
    (draw_goes c.args.fonts.now head c.args.disc last c.in-Some-pop.next c.in-Some-lig_between._lig (reverse items) (reverse rest) c.nearest-2.result heap mid
    (sym c.in-Some.is ∙ c.in_ok-last.ensures)
    (c.in-Some-lig_between.ensures ∙ ap (λ o. lig_between c.args.fonts.now heap (Some last) o) (c.nearest.ensures ∙ ap (λ (xs : List ℕ). slice_get (reverse xs) 0) c.deref.ensures.value))
    (one_off items rest c.in-Some-pop.next c.in-Some-pop.ensures.items)
    (c.nearest-2.ensures ∙ ap (λ (xs : List ℕ). slice_get (reverse xs) 0) c.deref-2.ensures.value)
    c.in_ok-draw_after.ensures)
    (c.in_ok-ligature_part.ensures.done head)
