use Rattle.std.proofs.Common.{ℕ, ◌≤◌, List, [], ◌∷◌, reverse, slice_get, Some, sym, ◌∙◌, ap, subst, arith}
use Rattle.std.specs.Prelude.{Option}
use Rattle.std.proofs.lemmas.Result.{err_from_is_err_and}
use Rattle.std.specs.Option.{option_and_then, option_or}
use Rattle.ntx_ligkern.specs.Ligatures.{lig_between}
use Rattle.ntx_nodes.specs.declared.contents.DiscFields.{DiscFields}
use Rattle.ntx_ligkern.specs.Ligaturing.{AtDisc, InList, from_spot, head_after, disc_at, drawn_before, right_of_disc}
use Rattle.ntx_ligkern.specs.inner.Cursors.{spot_of, spot_from}
use Rattle.ntx_ligkern.specs.inner.Chores.{RunsOn}
use Rattle.ntx_ligkern.proofs.Ahead.{first_of, tail_of, taken, fewer_taken}
use Rattle.ntx_ligkern.proofs.Turning.{on_and_on, on_and_to}
use Rattle.ntx_ligkern.proofs.Measures.{move_less, disc_less, risen, rises_before}
use Rattle.ntx_ligkern.proofs.ListTurns.{moves_no_disc, moves_no_lig, draw_goes, draw_stops}
use Rattle.ntx_ligkern.proofs.ligature_pass.before_disc.Goals as goal

pub returns-in_default-clause-done : goal.returns-in_default-clause-done
returns-in_default-clause-done g c =
    let heap = g.N.Nodes.heap c.args.nodes.now in
    let items = c.args.ahead.now.items in
    let m = c.move_on in
    rw m.ensures.head (moves_no_disc c.args.fonts.now c.args.head (spot_of c.args.cursor items) (spot_from m.new.ahead.items m.result.at) heap (sym c.requires.disc) (sym c.requires.lig)
    (ap (option_and_then (disc_at heap)) (c.in_default.ensures ∙ ap (λ (xs : List ℕ). slice_get (reverse xs) 0) c.deref.ensures.value)) m.ensures.at)

pub returns-in_default-disc_at-clause-done : goal.returns-in_default-disc_at-clause-done
returns-in_default-disc_at-clause-done g c =
    let heap = g.N.Nodes.heap c.args.nodes.now in
    let items = c.args.ahead.now.items in
    let m = c.move_on-in_default-disc_at in
    rw m.ensures.head (moves_no_disc c.args.fonts.now c.args.head (spot_of c.args.cursor items) (spot_from m.new.ahead.items m.result.at) heap (sym c.requires.disc) (sym c.requires.lig)
    (c.in_default-disc_at.ensures ∙ ap (option_and_then (disc_at heap)) (c.in-Some.ensures ∙ ap (λ (xs : List ℕ). slice_get (reverse xs) 0) c.deref.ensures.value)) m.ensures.at)

pub returns-in_default-lig_between-clause-done : goal.returns-in_default-lig_between-clause-done
returns-in_default-lig_between-clause-done g c =
    let heap = g.N.Nodes.heap c.args.nodes.now in
    let items = c.args.ahead.now.items in
    let spot = spot_of c.args.cursor items in
    let d = c.in-Some-disc_at.d in
    let m = c.move_on-in_default-lig_between in
    rw m.ensures.head (moves_no_lig c.args.fonts.now c.args.head spot (spot_from m.new.ahead.items m.result.at) heap (sym c.requires.disc) (sym c.requires.lig)
    (c.in_default-lig_between.ensures
    ∙ ap (λ o. lig_between c.args.fonts.now heap (Some c.args.cursor.at) o)
    (c.or.ensures ∙ ap (option_or d.replace) (c.second.ensures ∙ ap (λ (xs : List ℕ). slice_get (reverse xs) 1) c.deref-2.ensures.value)
    ∙ ap (λ (o : Option DiscFields). right_of_disc o (reverse items)) (c.in-Some-disc_at.ensures ∙ ap (option_and_then (disc_at heap)) (c.in-Some.ensures ∙ ap (λ (xs : List ℕ). slice_get (reverse xs) 0) c.deref.ensures.value)))) m.ensures.at)

pub returns-in_default-clause-fewer : goal.returns-in_default-clause-fewer
returns-in_default-clause-fewer g c =
    let heap = g.N.Nodes.heap c.args.nodes.now in
    let items = c.args.ahead.now.items in
    let m = c.move_on in
    move_less (Some c.args.cursor.at) (reverse items) (spot_of c.args.cursor items) (spot_from m.new.ahead.items m.result.at) heap heap (sym m.ensures.at) (omega arith) (omega arith)

pub returns-in_default-disc_at-clause-fewer : goal.returns-in_default-disc_at-clause-fewer
returns-in_default-disc_at-clause-fewer g c =
    let heap = g.N.Nodes.heap c.args.nodes.now in
    let items = c.args.ahead.now.items in
    let m = c.move_on-in_default-disc_at in
    move_less (Some c.args.cursor.at) (reverse items) (spot_of c.args.cursor items) (spot_from m.new.ahead.items m.result.at) heap heap (sym m.ensures.at) (omega arith) (omega arith)

pub returns-in_default-lig_between-clause-fewer : goal.returns-in_default-lig_between-clause-fewer
returns-in_default-lig_between-clause-fewer g c =
    let heap = g.N.Nodes.heap c.args.nodes.now in
    let items = c.args.ahead.now.items in
    let m = c.move_on-in_default-lig_between in
    move_less (Some c.args.cursor.at) (reverse items) (spot_of c.args.cursor items) (spot_from m.new.ahead.items m.result.at) heap heap (sym m.ensures.at) (omega arith) (omega arith)

pub returns-in_err-draw_before-clause-done : goal.returns-in_err-draw_before-clause-done
returns-in_err-draw_before-clause-done g c =
    let h = g.N.Nodes.heap in
    let heap = h c.args.nodes.now in
    let items = c.args.ahead.now.items in
    let spot = spot_of c.args.cursor items in
    let d = c.in-Some-disc_at.d in
    let disc = c.in-Some.disc in
    let first = c.in-Some.ensures ∙ ap (λ (xs : List ℕ). slice_get (reverse xs) 0) c.deref.ensures.value in
    let lig = c.in-Some-lig_between.ensures
    ∙ ap (λ o. lig_between c.args.fonts.now heap (Some c.args.cursor.at) o) (c.or.ensures ∙ ap (option_or d.replace) (c.second.ensures ∙ ap (λ (xs : List ℕ). slice_get (reverse xs) 1) c.deref-2.ensures.value)) in
    let p = err_from_is_err_and c.from_residual.result c.from_residual.ensures.1 in
    rw (p.1, p.2) (draw_stops c.args.fonts.now c.args.head spot d disc (tail_of (reverse items)) c.in-Some-lig_between._lig heap (h c.draw_before.new.nodes) c.in_err-draw_before.field-0.0 (sym c.requires.disc) (sym c.requires.lig)
    (first_of (reverse items) disc first) c.in-Some-disc_at.ensures lig c.in_err-draw_before.ensures)

pub returns-in_err-at-clause-done : goal.returns-in_err-at-clause-done
returns-in_err-at-clause-done g c =
    let h = g.N.Nodes.heap in
    let heap = h c.args.nodes.now in
    let items = c.args.ahead.now.items in
    let spot = spot_of c.args.cursor items in
    let d = c.in-Some-disc_at.d in
    let disc = c.in-Some.disc in
    let first = c.in-Some.ensures ∙ ap (λ (xs : List ℕ). slice_get (reverse xs) 0) c.deref.ensures.value in
    let lig = c.in-Some-lig_between.ensures
    ∙ ap (λ o. lig_between c.args.fonts.now heap (Some c.args.cursor.at) o) (c.or.ensures ∙ ap (option_or d.replace) (c.second.ensures ∙ ap (λ (xs : List ℕ). slice_get (reverse xs) 1) c.deref-2.ensures.value)) in
    let rest = c.take_next-disc.new.ahead.items in
    let mid = h c.draw_before.new.nodes in
    let new = h c.ligature_disc.new.nodes in
    let later = head_after c.args.head c.args.cursor.before disc in
    let split = taken items rest disc c.take_next-disc.result first c.take_next-disc.ensures in
    let goes = draw_goes c.args.fonts.now c.args.head spot d disc (reverse rest) c.in-Some-lig_between._lig heap mid (sym c.requires.disc) (sym c.requires.lig) split c.in-Some-disc_at.ensures lig c.in_ok-draw_before.ensures in
    let p = err_from_is_err_and c.from_residual-in_err-at.result c.from_residual-in_err-at.ensures.1 in
    rw (p.1, p.2) (on_and_to c.args.fonts.now c.args.head later (InList spot ∷ []) (AtDisc disc (reverse rest) ∷ []) heap mid c.in_err-at.field-0.0 new goes (c.in_err-at.ensures.done later))

pub returns-clause-done : goal.returns-clause-done
returns-clause-done g c =
    let h = g.N.Nodes.heap in
    let heap = h c.args.nodes.now in
    let items = c.args.ahead.now.items in
    let spot = spot_of c.args.cursor items in
    let d = c.in-Some-disc_at.d in
    let disc = c.in-Some.disc in
    let first = c.in-Some.ensures ∙ ap (λ (xs : List ℕ). slice_get (reverse xs) 0) c.deref.ensures.value in
    let lig = c.in-Some-lig_between.ensures
    ∙ ap (λ o. lig_between c.args.fonts.now heap (Some c.args.cursor.at) o) (c.or.ensures ∙ ap (option_or d.replace) (c.second.ensures ∙ ap (λ (xs : List ℕ). slice_get (reverse xs) 1) c.deref-2.ensures.value)) in
    let rest = c.take_next-disc.new.ahead.items in
    let mid = h c.draw_before.new.nodes in
    let new = h c.ligature_disc.new.nodes in
    let later = head_after c.args.head c.args.cursor.before disc in
    let split = taken items rest disc c.take_next-disc.result first c.take_next-disc.ensures in
    let goes = draw_goes c.args.fonts.now c.args.head spot d disc (reverse rest) c.in-Some-lig_between._lig heap mid (sym c.requires.disc) (sym c.requires.lig) split c.in-Some-disc_at.ensures lig c.in_ok-draw_before.ensures in
    let left = from_spot InList (spot_from c.ligature_disc.new.ahead.items c.in_ok-at.at) in
    subst (λ (n : ℕ). RunsOn c.args.fonts.now c.args.head (InList spot ∷ []) heap n left new) (sym c.head_after.ensures)
    (on_and_on c.args.fonts.now c.args.head later later (InList spot ∷ []) (AtDisc disc (reverse rest) ∷ []) left heap mid new goes (c.in_ok-at.ensures.done later))

pub returns-clause-fewer : goal.returns-clause-fewer
returns-clause-fewer g c =
    let h = g.N.Nodes.heap in
    let heap = h c.args.nodes.now in
    let items = c.args.ahead.now.items in
    let rest = c.take_next-disc.new.ahead.items in
    let mid = h c.draw_before.new.nodes in
    let new = h c.ligature_disc.new.nodes in
    let drawn = drawn_before c.args.cursor.before c.args.cursor.at c.in-Some.disc c.in-Some-disc_at.d heap in
    let rises : heap.next ≤ mid.next = risen drawn tt heap mid (rises_before c.args.cursor.before c.args.cursor.at c.in-Some.disc c.in-Some-disc_at.d heap) c.in_ok-draw_before.ensures in
    let on : mid.next ≤ new.next = c.in_ok-at.ensures.later in
    let first = c.in-Some.ensures ∙ ap (λ (xs : List ℕ). slice_get (reverse xs) 0) c.deref.ensures.value in
    let split = taken items rest c.in-Some.disc c.take_next-disc.result first c.take_next-disc.ensures in
    disc_less c.args.cursor items rest c.ligature_disc.new.ahead.items c.in_ok-at.at heap new (fewer_taken items rest c.in-Some.disc split) c.in_ok-at.ensures.fewer (omega arith)
