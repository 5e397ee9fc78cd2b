use Rattle.std.proofs.Common.{◌<◌, [], ◌∷◌, None, sym, ◌∙◌, ap, subst}
use Rattle.std.specs.Prelude.{Option}
use Rattle.std.proofs.lemmas.Result.{err_from_is_err_and}
use Rattle.ntx_ligkern.specs.Ligaturing.{InList, from_spot, first_chores}
use Rattle.ntx_ligkern.specs.Ligatures.{Spot, spot_in}
use Rattle.ntx_ligkern.specs.declared.cursor.Cursor.{Cursor}
use Rattle.ntx_ligkern.specs.inner.Cursors.{spot_of, spot_from}
use Rattle.ntx_ligkern.specs.inner.Chores.{RunsOn, left_from}
use Rattle.ntx_ligkern.proofs.Turning.{no_turn, memory_out, on_and_on, on_and_to}
use Rattle.ntx_ligkern.proofs.DiscTurns.{spots_end}
use Rattle.ntx_ligkern.proofs.WholePass.{runs_stop, runs_end}
use Rattle.ntx_ligkern.proofs.ligature_pass.ligature_list.Goals as goal

pub returns-in_err-ahead : goal.returns-in_err-ahead
returns-in_err-ahead g c =
    let heap = g.N.Nodes.heap c.args.nodes.now in
    let p = err_from_is_err_and c.from_residual.result c.from_residual.ensures.1 in
    rw (p.1, p.2) (memory_out c.args.fonts.now c.args.head [] heap (first_chores c.args.head heap))

pub returns-in_err-done : goal.returns-in_err-done
returns-in_err-done g c =
    let h = g.N.Nodes.heap in
    let fonts = c.args.fonts.now in
    let first = h c.args.nodes.now in
    let heap = h c.loop-at.nodes in
    let new = h c.list_turn.new.nodes in
    let items = c.loop-at.ahead.items in
    let start = first_chores c.args.head first in
    let e = c.in_err-done.field-0.0 in
    let p = err_from_is_err_and c.from_residual-in_err-done.result c.from_residual-in_err-done.ensures.1 in
    rw (p.1, p.2) (runs_stop fonts c.args.head start first e new
    (on_and_to fonts c.args.head c.loop-at.head start (InList (spot_of c.in-Some.cursor items) ∷ []) first heap e new
    (subst (λ (o : Option Cursor). RunsOn fonts c.args.head start first c.loop-at.head (from_spot InList (spot_from items o)) heap) c.in-Some.is c.loop-at.invariant) c.in_err-done.ensures.done))

pub loop-at-preserved : goal.loop-at-preserved
loop-at-preserved g c =
    let h = g.N.Nodes.heap in
    let fonts = c.args.fonts.now in
    let first = h c.args.nodes.now in
    let heap = h c.loop-at.nodes in
    let new = h c.list_turn.new.nodes in
    let items = c.loop-at.ahead.items in
    let start = first_chores c.args.head first in
    on_and_on fonts c.args.head c.loop-at.head c.in_ok-done.done.head start (InList (spot_of c.in-Some.cursor items) ∷ []) (from_spot InList (spot_from c.list_turn.new.ahead.items c.in_ok-done.done.at)) first heap new
    (subst (λ (o : Option Cursor). RunsOn fonts c.args.head start first c.loop-at.head (from_spot InList (spot_from items o)) heap) c.in-Some.is c.loop-at.invariant) c.in_ok-done.ensures.done

pub returns : goal.returns
returns g c =
    let h = g.N.Nodes.heap in
    let fonts = c.args.fonts.now in
    let first = h c.args.nodes.now in
    let heap = h c.loop-at.nodes in
    let start = first_chores c.args.head first in
    runs_end fonts c.args.head c.loop-at.head start first heap (spots_end fonts c.args.head c.loop-at.head start first heap InList c.loop-at.ahead.items c.loop-at.at c.in_default.not-Some c.loop-at.invariant)

pub loop-at-init : goal.loop-at-init
loop-at-init g c =
    let heap = g.N.Nodes.heap c.args.nodes.now in
    let head = c.args.head in
    let start = first_chores head heap in
    subst (λ (s : Option Spot). RunsOn c.args.fonts.now head start heap head (from_spot InList s) heap) (sym (c.take_next-at.ensures ∙ ap (spot_in None 0) c.in_ok-ahead.ensures)) (no_turn c.args.fonts.now head start heap)

pub loop-at-smaller : goal.loop-at-smaller
loop-at-smaller g c =
    let h = g.N.Nodes.heap in
    let heap = h c.loop-at.nodes in
    let new = h c.list_turn.new.nodes in
    let items = c.loop-at.ahead.items in
    let next = spot_from c.list_turn.new.ahead.items c.in_ok-done.done.at in
    subst (λ (o : Option Cursor). left_from new next < left_from heap (spot_from items o)) (sym c.in-Some.is) c.in_ok-done.ensures.fewer
