use Rattle.ntx_lists.proofs.Places.{place_found}
use Rattle.ntx_lists.proofs.insert.find_in.Goals as goal

pub returns-clause-finds : goal.returns-clause-finds
returns-clause-finds g c =
    place_found (g.N.Nodes.heap c.args.nodes.now) (g.N.Nodes.heap c.begin_walk.new.self) c.args.head c.args.cur c.in_ok-kind_of.field-0 c.in_ok-kind_of-2.field-0 (g.N.Nodes.visited c.begin_walk.new.self) c.find.result
    c.begin_walk.ensures.same c.in_ok-kind_of.ensures c.in_ok-kind_of-2.ensures c.begin_walk.ensures.visits c.find.ensures.finds
