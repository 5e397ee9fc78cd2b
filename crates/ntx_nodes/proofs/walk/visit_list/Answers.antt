use Rattle.ntx_nodes.proofs.WholeWalks.{visited_from}
use Rattle.ntx_nodes.proofs.walk.visit_list.Goals as goal

pub returns-clause-answer : goal.returns-clause-answer
returns-clause-answer g c =
    (visited_from (g.N.Nodes.heap c.args.nodes.now) (g.N.Nodes.heap c.begin_walk.new.self) c.args.way c.args.head c.args.k (g.N.Nodes.visited c.begin_walk.new.self) (g.N.Nodes.visited c.visit_on.new.nodes) c.visit_on.result
    c.begin_walk.ensures.same c.begin_walk.ensures.visits c.visit_on.ensures.walks).0

pub returns-clause-marks : goal.returns-clause-marks
returns-clause-marks g c =
    (visited_from (g.N.Nodes.heap c.args.nodes.now) (g.N.Nodes.heap c.begin_walk.new.self) c.args.way c.args.head c.args.k (g.N.Nodes.visited c.begin_walk.new.self) (g.N.Nodes.visited c.visit_on.new.nodes) c.visit_on.result
    c.begin_walk.ensures.same c.begin_walk.ensures.visits c.visit_on.ensures.walks).1
