use Rattle.std.proofs.Common.{Ok, ap, ◌∙◌}
use Rattle.std.proofs.lemmas.Result.{err_from_is_err_and}
use Rattle.ntx_lists.proofs.Places.{tail_seen, tail_stopped}
use Rattle.ntx_lists.proofs.insert.tail.Goals as goal

pub returns-in_err-seen-clause-answer : goal.returns-in_err-seen-clause-answer
returns-in_err-seen-clause-answer g c =
    let p = err_from_is_err_and c.from_residual.result c.from_residual.ensures.1 in
    rw (p.1, p.2) (tail_stopped (g.N.Nodes.heap c.args.nodes.now) (g.N.Nodes.heap c.begin_walk.new.self) c.args.head c.args.head (g.N.Nodes.visited c.begin_walk.new.self) (g.N.Nodes.visited c.go_along.new.nodes) _ c.begin_walk.ensures.same c.begin_walk.ensures.visits c.in_err-seen.ensures.surveys)

pub returns-clause-answer : goal.returns-clause-answer
returns-clause-answer g c =
    ap Ok c.unwrap_or.ensures
    ∙ tail_seen (g.N.Nodes.heap c.args.nodes.now) (g.N.Nodes.heap c.begin_walk.new.self) c.args.head c.args.head (g.N.Nodes.visited c.begin_walk.new.self) (g.N.Nodes.visited c.go_along.new.nodes) c.in_ok-seen.seen c.begin_walk.ensures.same c.begin_walk.ensures.visits c.in_ok-seen.ensures.surveys
