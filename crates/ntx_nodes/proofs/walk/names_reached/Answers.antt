use Rattle.ntx_num.specs.Answer.{result_map}
use Rattle.ntx_nodes.proofs.WholeWalks.{names_from}
use Rattle.ntx_nodes.proofs.walk.names_reached.Goals as goal

pub returns-clause-answer : goal.returns-clause-answer
returns-clause-answer g c =
    names_from (g.N.Nodes.heap c.args.nodes.now) (g.N.Nodes.heap c.begin_walk.new.self) c.args.way c.args.head c.args.k (g.N.Nodes.visited c.begin_walk.new.self) (g.N.Nodes.visited c.names_on.new.nodes) c.new.result.items
    (result_map (λ names. names.items) c.names_on.result) c.begin_walk.ensures.same c.begin_walk.ensures.visits c.new.ensures.items c.names_on.ensures.names
