use Rattle.ntx_lists.proofs.Places.{found_at}
use Rattle.ntx_lists.proofs.insert.find.Goals as goal

pub returns-clause-finds : goal.returns-clause-finds
returns-clause-finds g c =
    found_at (g.N.Nodes.heap c.args.nodes.now) (g.N.Nodes.heap c.go_along.new.nodes) c.args.head c.args.cur (g.N.Nodes.visited c.args.nodes.now) (g.N.Nodes.visited c.go_along.new.nodes) c.in_ok-seen.seen c.go_along.ensures.same c.lawful.ensures.visited c.in_ok-seen.ensures.surveys c.if-not-seen.false
