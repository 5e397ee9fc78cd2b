use Rattle.std.proofs.lemmas.Result.{err_from_is_err_and}
use Rattle.ntx_machine.specs.Seen.{state_of}
use Rattle.ntx_machine.proofs.Building.{box_not_standing}
use Rattle.ntx_machine.proofs.engine.Engine.outer_box.Goals as goal

pub returns-in_err-n-clause-ends : goal.returns-in_err-n-clause-ends
returns-in_err-n-clause-ends g c =
    let h = g.N.Nodes.heap in
    let p = err_from_is_err_and c.from_residual.result c.from_residual.ensures.1 in
    rw (p.1, p.2) (box_not_standing c.args.fonts.now c.args.to c.args.body.now (state_of h c.args.self.now) (state_of h c.build_box.new.self) c.in_err-n.field-0.0 c.in_err-n.ensures.ends)
