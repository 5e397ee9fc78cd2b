use Rattle.std.proofs.lemmas.Result.{err_from_is_err_and}
use Rattle.ntx_lists.proofs.Places.{length_seen, length_stopped}
use Rattle.ntx_lists.proofs.insert.length.Goals as goal

pub returns-in_err-go_along-in-Some-clause-answer : goal.returns-in_err-go_along-in-Some-clause-answer
returns-in_err-go_along-in-Some-clause-answer g c =
    let p = err_from_is_err_and c.from_residual.result c.from_residual.ensures.1 in
    rw (p.1, p.2, c.in-Some.is) (length_stopped (g.N.Nodes.heap c.args.nodes.now) (g.N.Nodes.heap c.begin_walk.new.self) c.in-Some.head c.in-Some.head (g.N.Nodes.visited c.begin_walk.new.self) (g.N.Nodes.visited c.go_along.new.nodes) _ c.begin_walk.ensures.same c.begin_walk.ensures.visits c.in_err-go_along-in-Some.ensures.surveys)

pub returns-in_ok-go_along-in-Some-clause-answer : goal.returns-in_ok-go_along-in-Some-clause-answer
returns-in_ok-go_along-in-Some-clause-answer g c =
    rw c.in-Some.is (length_seen (g.N.Nodes.heap c.args.nodes.now) (g.N.Nodes.heap c.begin_walk.new.self) c.in-Some.head c.in-Some.head (g.N.Nodes.visited c.begin_walk.new.self) (g.N.Nodes.visited c.go_along.new.nodes) c.in_ok-go_along-in-Some.field-0 c.begin_walk.ensures.same c.begin_walk.ensures.visits c.in_ok-go_along-in-Some.ensures.surveys)
