use Rattle.std.proofs.Common.{◌+◌, ◌≤◌, Bool, if◌then◌else◌, [], ◌∷◌, ◌++◌, reverse, length, Some, sym, subst, arith}
use Rattle.std.specs.Prelude.{Option}
use Rattle.std.proofs.lemmas.Result.{err_from_is_err_and}
use Rattle.ntx_ligkern.specs.Ligatures.{Spot, spot_in}
use Rattle.ntx_ligkern.specs.Ligaturing.{AtDisc, InList, from_spot}
use Rattle.ntx_ligkern.specs.inner.Chores.{RunsOn, three_parts, after_absorbing}
use Rattle.ntx_ligkern.proofs.Turning.{on_and_on, on_and_to, on_before, to_before}
use Rattle.ntx_ligkern.proofs.parts.ligature_disc.Goals as goal

pub returns-in_err-more-clause-done : goal.returns-in_err-more-clause-done
returns-in_err-more-clause-done g c =
    let h = g.N.Nodes.heap in
    let fonts = c.args.fonts.now in
    let disc = c.args.disc in
    let first = h c.args.nodes.now in
    let heap = h c.loop-more.nodes in
    let start = AtDisc disc (reverse c.args.ahead.now.items) ∷ [] in
    let ahead = reverse c.loop-more.ahead.items in
    let p = err_from_is_err_and c.from_residual.result c.from_residual.ensures.1 in
    rw (p.1, p.2) (λ head. on_and_to fonts head head start (AtDisc disc ahead ∷ []) first heap c.in_err-more.field-0.0 (h c.absorb.new.nodes)
    (subst (λ (b : Bool). RunsOn fonts head start first head (after_absorbing b disc ahead) heap) c.loop-more-test.true (c.loop-more.invariant.runs head)) (c.in_err-more.ensures.done head))

pub loop-more-preserved : goal.loop-more-preserved
loop-more-preserved g c =
    let h = g.N.Nodes.heap in
    let fonts = c.args.fonts.now in
    let disc = c.args.disc in
    let first = h c.args.nodes.now in
    let heap = h c.loop-more.nodes in
    let new = h c.absorb.new.nodes in
    let start = AtDisc disc (reverse c.args.ahead.now.items) ∷ [] in
    let ahead = reverse c.loop-more.ahead.items in
    let before : first.next ≤ heap.next = c.loop-more.invariant.later in
    let rises : heap.next ≤ new.next = c.in_ok-more.ensures.later in
    let few : length c.loop-more.ahead.items ≤ length c.args.ahead.now.items = c.loop-more.invariant.fewer in
    let fewer : length c.absorb.new.ahead.items + (if c.in_ok-more.more then 1 else 0) ≤ length c.loop-more.ahead.items = c.in_ok-more.ensures.fewer in
    record {
      runs = λ head. on_and_on fonts head head head start (AtDisc disc ahead ∷ []) (after_absorbing c.in_ok-more.more disc (reverse c.absorb.new.ahead.items)) first heap new
          (subst (λ (b : Bool). RunsOn fonts head start first head (after_absorbing b disc ahead) heap) c.loop-more-test.true (c.loop-more.invariant.runs head)) (c.in_ok-more.ensures.done head);
      later = omega arith;
      fewer = omega arith;
    }

pub returns-in_err-ligature_parts-clause-done : goal.returns-in_err-ligature_parts-clause-done
returns-in_err-ligature_parts-clause-done g c =
    let h = g.N.Nodes.heap in
    let fonts = c.args.fonts.now in
    let disc = c.args.disc in
    let first = h c.args.nodes.now in
    let heap = h c.loop-more.nodes in
    let new = h c.ligature_parts.new.nodes in
    let start = AtDisc disc (reverse c.args.ahead.now.items) ∷ [] in
    let ahead = reverse c.loop-more.ahead.items in
    let rest = from_spot InList (spot_in (Some disc) 0 ahead) in
    let e = c.in_err-ligature_parts.field-0.0 in
    let p = err_from_is_err_and c.from_residual-in_err-ligature_parts.result c.from_residual-in_err-ligature_parts.ensures.1 in
    rw (p.1, p.2) (λ head. on_and_to fonts head head start (three_parts disc ++ rest) first heap e new
    (subst (λ (b : Bool). RunsOn fonts head start first head (after_absorbing b disc ahead) heap) c.loop-more-test.false (c.loop-more.invariant.runs head))
    (to_before fonts head (three_parts disc) rest heap e new (c.in_err-ligature_parts.ensures.done head)))

pub returns-clause-done : goal.returns-clause-done
returns-clause-done g c =
    let h = g.N.Nodes.heap in
    let fonts = c.args.fonts.now in
    let disc = c.args.disc in
    let first = h c.args.nodes.now in
    let heap = h c.loop-more.nodes in
    let new = h c.ligature_parts.new.nodes in
    let start = AtDisc disc (reverse c.args.ahead.now.items) ∷ [] in
    let ahead = reverse c.loop-more.ahead.items in
    let rest = from_spot InList (spot_in (Some disc) 0 ahead) in
    λ head. subst (λ (s : Option Spot). RunsOn fonts head start first head (from_spot InList s) new) (sym c.take_next.ensures)
    (on_and_on fonts head head head start (three_parts disc ++ rest) rest first heap new
    (subst (λ (b : Bool). RunsOn fonts head start first head (after_absorbing b disc ahead) heap) c.loop-more-test.false (c.loop-more.invariant.runs head))
    (on_before fonts head head (three_parts disc) [] rest heap new (c.in_ok-ligature_parts.ensures.done head)))
