use Rattle.std.proofs.Common.{◌-◌, ◌++◌, ◌∙◌, ap}
use Rattle.ntx_ligkern.specs.Along.{first_along, along}
use Rattle.ntx_ligkern.proofs.Walked.{one_along, ended_along, full_along}
use Rattle.ntx_ligkern.proofs.listing.along.Goals as goal

pub loop-most-preserved : goal.loop-most-preserved
loop-most-preserved g c =
    let heap = g.N.Nodes.heap c.args.nodes.now in
    ap (λ o. c.push.new.self.items ++ first_along heap (c.loop-most.most - 1) o) c.next_of-at.ensures
    ∙ one_along heap c.loop-most.most c.in-Some.n c.loop-most.at c.loop-most.names.items c.push.new.self.items (along heap c.args.to) c.loop-most-test.true c.in-Some.is c.loop-most.invariant c.in_ok-push.ensures.items

pub returns-in_default : goal.returns-in_default
returns-in_default g c =
    let heap = g.N.Nodes.heap c.args.nodes.now in
    ended_along heap c.loop-most.most c.loop-most.at c.loop-most.names.items (along heap c.args.to) c.in_default.not-Some c.loop-most.invariant

pub returns : goal.returns
returns g c =
    let heap = g.N.Nodes.heap c.args.nodes.now in
    full_along heap c.loop-most.most c.loop-most.at c.loop-most.names.items (along heap c.args.to) c.loop-most-test.false c.loop-most.invariant
