use Rattle.std.proofs.lemmas.Result.{err_from_is_err_and}
use Rattle.ntx_ligkern.proofs.DiscTurns.{second_stops, three_reach}
use Rattle.ntx_ligkern.proofs.parts.ligature_parts.Goals as goal

pub returns-in_err-ligature_part-2-clause-done : goal.returns-in_err-ligature_part-2-clause-done
returns-in_err-ligature_part-2-clause-done g c =
    let h = g.N.Nodes.heap in
    let p = err_from_is_err_and c.from_residual-in_err-ligature_part-2.result c.from_residual-in_err-ligature_part-2.ensures.1 in
    rw (p.1, p.2) (λ head. second_stops c.args.fonts.now head c.args.disc (h c.args.nodes.now) (h c.ligature_part.new.nodes) (h c.ligature_part-2.new.nodes) c.in_err-ligature_part-2.field-0.0 (c.in_ok-ligature_part.ensures.done head) (c.in_err-ligature_part-2.ensures.done head))

pub returns-clause-done : goal.returns-clause-done
returns-clause-done g c =
    let h = g.N.Nodes.heap in
    three_reach c.args.fonts.now c.args.disc (h c.args.nodes.now) (h c.ligature_part.new.nodes) (h c.ligature_part-2.new.nodes) (h c.ligature_part-3.new.nodes) c.ligature_part-3.result c.in_ok-ligature_part.ensures.done c.in_ok-ligature_part-2.ensures.done c.ligature_part-3.ensures.done
