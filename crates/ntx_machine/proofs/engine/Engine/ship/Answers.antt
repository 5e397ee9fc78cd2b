use Rattle.ntx_machine.specs.State.{State}
use Rattle.ntx_machine.specs.Seen.{state_of}
use Rattle.ntx_machine.proofs.Shipping.{ships_course}
use Rattle.ntx_machine.proofs.engine.Engine.ship.Goals as goal

pub returns-clause-ends : goal.returns-clause-ends
returns-clause-ends g c =
    let h = g.N.Nodes.heap in
    let s : State = state_of h c.args.self.now in
    rw c.shipped_as.ensures (ships_course c.args.fonts.now c.args.page s c.ship.result c.ship.new.dvi (h c.ship.new.nodes) c.ship.ensures.dvi c.ship.ensures.heap)
