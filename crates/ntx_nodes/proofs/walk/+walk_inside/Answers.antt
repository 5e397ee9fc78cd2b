use Rattle.std.proofs.Common.{◌≡◌, ◌<◌, ◌≤◌, ◌∙◌, subst, sym, arith}
use Rattle.std.proofs.lemmas.Result.{err_from_is_err_and}
use Rattle.ntx_nodes.specs.Walker.{unvisited}
use Rattle.ntx_nodes.proofs.Walks.{unvisited_falls}
use Rattle.ntx_nodes.proofs.WalkSteps.{fails_at, fails_first, fails_second, fails_third, goes_on}
use Rattle.ntx_nodes.proofs.walk.+walk_inside.Goals as goal

pub returns-in_err-onward-clause-walks : goal.returns-in_err-onward-clause-walks
returns-in_err-onward-clause-walks g t c =
    let p = err_from_is_err_and c.from_residual.result c.from_residual.ensures.1 in
    rw (p.1, p.2) (fails_at (g.N.Nodes.heap c.args.nodes.now) (g.N.Nodes.heap c.loop-at.nodes) c.args.way c.args.depth c.args.k c.args.head c.loop-at.at (g.N.Nodes.visited c.args.nodes.now) (g.N.Nodes.visited c.loop-at.nodes) (g.N.Nodes.visited c.reach.new.nodes) (g.N.Nodes.visited c.reach.new.nodes) c.args.names.now c.loop-at.names c.reach.new.names c.reach.new.names c.in-Some.n _ c.loop-at.invariant.same c.loop-at.invariant.gets c.in-Some.is c.in_err-onward.ensures.reaches)

pub returns-in_err-walk_inside-clause-walks : goal.returns-in_err-walk_inside-clause-walks
returns-in_err-walk_inside-clause-walks g t c =
    let p = err_from_is_err_and c.from_residual-in_err-walk_inside.result c.from_residual-in_err-walk_inside.ensures.1 in
    rw (p.1, p.2) (fails_first (g.N.Nodes.heap c.args.nodes.now) (g.N.Nodes.heap c.loop-at.nodes) (g.N.Nodes.heap c.reach.new.nodes) c.args.way c.args.depth c.args.k c.args.head c.loop-at.at (g.N.Nodes.visited c.args.nodes.now) (g.N.Nodes.visited c.loop-at.nodes) (g.N.Nodes.visited c.reach.new.nodes) (g.N.Nodes.visited c.walk_inside.new.nodes) (g.N.Nodes.visited c.walk_inside.new.nodes) c.args.names.now c.loop-at.names c.reach.new.names c.walk_inside.new.names c.walk_inside.new.names c.in-Some.n c.in_ok-onward.onward _ c.loop-at.invariant.same (c.reach.ensures.same ∙ c.loop-at.invariant.same) c.loop-at.invariant.gets c.in-Some.is c.in_ok-onward.ensures.reaches c.in_err-walk_inside.ensures.walks)

pub returns-in_err-walk_inside-2-clause-walks : goal.returns-in_err-walk_inside-2-clause-walks
returns-in_err-walk_inside-2-clause-walks g t c =
    let p = err_from_is_err_and c.from_residual-in_err-walk_inside-2.result c.from_residual-in_err-walk_inside-2.ensures.1 in
    rw (p.1, p.2) (fails_second (g.N.Nodes.heap c.args.nodes.now) (g.N.Nodes.heap c.loop-at.nodes) (g.N.Nodes.heap c.reach.new.nodes) (g.N.Nodes.heap c.walk_inside.new.nodes) c.args.way c.args.depth c.args.k c.args.head c.loop-at.at (g.N.Nodes.visited c.args.nodes.now) (g.N.Nodes.visited c.loop-at.nodes) (g.N.Nodes.visited c.reach.new.nodes) (g.N.Nodes.visited c.walk_inside.new.nodes) (g.N.Nodes.visited c.walk_inside-in-Some.new.nodes) (g.N.Nodes.visited c.walk_inside-in-Some.new.nodes) c.args.names.now c.loop-at.names c.reach.new.names c.walk_inside.new.names c.walk_inside-in-Some.new.names c.walk_inside-in-Some.new.names c.in-Some.n c.in_ok-onward.onward _ c.loop-at.invariant.same (c.reach.ensures.same ∙ c.loop-at.invariant.same) (c.walk_inside.ensures.same ∙ c.reach.ensures.same ∙ c.loop-at.invariant.same) c.loop-at.invariant.gets c.in-Some.is c.in_ok-onward.ensures.reaches c.in_ok-walk_inside.ensures.walks c.in_err-walk_inside-2.ensures.walks)

pub returns-in_err-walk_inside-3-clause-walks : goal.returns-in_err-walk_inside-3-clause-walks
returns-in_err-walk_inside-3-clause-walks g t c =
    let p = err_from_is_err_and c.from_residual-in_err-walk_inside-3.result c.from_residual-in_err-walk_inside-3.ensures.1 in
    rw (p.1, p.2) (fails_third (g.N.Nodes.heap c.args.nodes.now) (g.N.Nodes.heap c.loop-at.nodes) (g.N.Nodes.heap c.reach.new.nodes) (g.N.Nodes.heap c.walk_inside.new.nodes) (g.N.Nodes.heap c.walk_inside-in-Some.new.nodes) c.args.way c.args.depth c.args.k c.args.head c.loop-at.at (g.N.Nodes.visited c.args.nodes.now) (g.N.Nodes.visited c.loop-at.nodes) (g.N.Nodes.visited c.reach.new.nodes) (g.N.Nodes.visited c.walk_inside.new.nodes) (g.N.Nodes.visited c.walk_inside-in-Some.new.nodes) (g.N.Nodes.visited c.walk_inside-in-Some-2.new.nodes) (g.N.Nodes.visited c.walk_inside-in-Some-2.new.nodes) c.args.names.now c.loop-at.names c.reach.new.names c.walk_inside.new.names c.walk_inside-in-Some.new.names c.walk_inside-in-Some-2.new.names c.walk_inside-in-Some-2.new.names c.in-Some.n c.in_ok-onward.onward _ c.loop-at.invariant.same (c.reach.ensures.same ∙ c.loop-at.invariant.same) (c.walk_inside.ensures.same ∙ c.reach.ensures.same ∙ c.loop-at.invariant.same) (c.walk_inside-in-Some.ensures.same ∙ c.walk_inside.ensures.same ∙ c.reach.ensures.same ∙ c.loop-at.invariant.same) c.loop-at.invariant.gets c.in-Some.is c.in_ok-onward.ensures.reaches c.in_ok-walk_inside.ensures.walks c.in_ok-walk_inside-2.ensures.walks c.in_err-walk_inside-3.ensures.walks)

pub loop-at-preserved : goal.loop-at-preserved
loop-at-preserved g t c = record {
  same = c.walk_inside-in-Some-2.ensures.same ∙ c.walk_inside-in-Some.ensures.same ∙ c.walk_inside.ensures.same ∙ c.reach.ensures.same ∙ c.loop-at.invariant.same;
  gets = goes_on (g.N.Nodes.heap c.args.nodes.now) (g.N.Nodes.heap c.loop-at.nodes) (g.N.Nodes.heap c.reach.new.nodes) (g.N.Nodes.heap c.walk_inside.new.nodes) (g.N.Nodes.heap c.walk_inside-in-Some.new.nodes) c.args.way c.args.depth c.args.k c.args.head c.loop-at.at (g.N.Nodes.visited c.args.nodes.now) (g.N.Nodes.visited c.loop-at.nodes) (g.N.Nodes.visited c.reach.new.nodes) (g.N.Nodes.visited c.walk_inside.new.nodes) (g.N.Nodes.visited c.walk_inside-in-Some.new.nodes) (g.N.Nodes.visited c.walk_inside-in-Some-2.new.nodes) c.args.names.now c.loop-at.names c.reach.new.names c.walk_inside.new.names c.walk_inside-in-Some.new.names c.walk_inside-in-Some-2.new.names c.in-Some.n c.in_ok-onward.onward c.loop-at.invariant.same (c.reach.ensures.same ∙ c.loop-at.invariant.same) (c.walk_inside.ensures.same ∙ c.reach.ensures.same ∙ c.loop-at.invariant.same) (c.walk_inside-in-Some.ensures.same ∙ c.walk_inside.ensures.same ∙ c.reach.ensures.same ∙ c.loop-at.invariant.same) c.loop-at.invariant.gets c.in-Some.is c.in_ok-onward.ensures.reaches c.in_ok-walk_inside.ensures.walks c.in_ok-walk_inside-2.ensures.walks c.in_ok-walk_inside-3.ensures.walks;
  keeps = λ q h. c.in_ok-walk_inside-3.ensures.keeps q (c.in_ok-walk_inside-2.ensures.keeps q (c.in_ok-walk_inside.ensures.keeps q (c.in_ok-onward.ensures.keeps q (c.loop-at.invariant.keeps q h))));
  uncollected = λ e. c.walk_inside-in-Some-2.ensures.uncollected (c.walk_inside-in-Some.ensures.uncollected (c.walk_inside.ensures.uncollected (c.reach.ensures.uncollected (c.loop-at.invariant.uncollected e))));
}

pub loop-at-smaller : goal.loop-at-smaller
loop-at-smaller g t c =
    let same : g.N.Nodes.heap c.loop-at.nodes ≡ g.N.Nodes.heap c.walk_inside-in-Some-2.new.nodes =
    sym (c.walk_inside-in-Some-2.ensures.same ∙ c.walk_inside-in-Some.ensures.same ∙ c.walk_inside.ensures.same ∙ c.reach.ensures.same) in
    let less : unvisited (g.N.Nodes.heap c.loop-at.nodes) (g.N.Nodes.visited c.reach.new.nodes) < unvisited (g.N.Nodes.heap c.loop-at.nodes) (g.N.Nodes.visited c.loop-at.nodes) = c.in_ok-onward.ensures.fewer in
    let falls : unvisited (g.N.Nodes.heap c.loop-at.nodes) (g.N.Nodes.visited c.walk_inside-in-Some-2.new.nodes) ≤ unvisited (g.N.Nodes.heap c.loop-at.nodes) (g.N.Nodes.visited c.reach.new.nodes) =
    unvisited_falls (g.N.Nodes.heap c.loop-at.nodes) (g.N.Nodes.visited c.reach.new.nodes) (g.N.Nodes.visited c.walk_inside-in-Some-2.new.nodes) (λ q h. c.in_ok-walk_inside-3.ensures.keeps q (c.in_ok-walk_inside-2.ensures.keeps q (c.in_ok-walk_inside.ensures.keeps q h))) in
    let fewer : unvisited (g.N.Nodes.heap c.loop-at.nodes) (g.N.Nodes.visited c.walk_inside-in-Some-2.new.nodes) < unvisited (g.N.Nodes.heap c.loop-at.nodes) (g.N.Nodes.visited c.loop-at.nodes) = omega arith in
    subst (λ h. unvisited h (g.N.Nodes.visited c.walk_inside-in-Some-2.new.nodes) < unvisited (g.N.Nodes.heap c.loop-at.nodes) (g.N.Nodes.visited c.loop-at.nodes)) same fewer
