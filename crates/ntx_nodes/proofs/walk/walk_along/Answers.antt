use Rattle.std.proofs.Common.{◌∙◌}
use Rattle.std.proofs.lemmas.Result.{err_from_is_err_and}
use Rattle.ntx_nodes.specs.declared.kind.Way.TheVariants.{Flat}
use Rattle.ntx_nodes.proofs.WalkSteps.{fails_at, goes_along}
use Rattle.ntx_nodes.proofs.walk.walk_along.Goals as goal

pub returns-in_err-at-clause-walks : goal.returns-in_err-at-clause-walks
returns-in_err-at-clause-walks g c =
    let p = err_from_is_err_and c.from_residual.result c.from_residual.ensures.1 in
    rw (p.1, p.2) (fails_at (g.N.Nodes.heap c.args.nodes.now) (g.N.Nodes.heap c.loop-at.nodes) Flat c.args.depth c.args.k c.args.head c.loop-at.at (g.N.Nodes.visited c.args.nodes.now) (g.N.Nodes.visited c.loop-at.nodes) (g.N.Nodes.visited c.reach.new.nodes) (g.N.Nodes.visited c.reach.new.nodes) c.args.names.now c.loop-at.names c.reach.new.names c.reach.new.names c.in-Some.n _ c.loop-at.invariant.same c.loop-at.invariant.gets c.in-Some.is c.in_err-at.ensures.reaches)

pub loop-at-preserved : goal.loop-at-preserved
loop-at-preserved g c = record {
  same = c.reach.ensures.same ∙ c.loop-at.invariant.same;
  gets = goes_along (g.N.Nodes.heap c.args.nodes.now) (g.N.Nodes.heap c.loop-at.nodes) c.args.depth c.args.k c.args.head c.loop-at.at (g.N.Nodes.visited c.args.nodes.now) (g.N.Nodes.visited c.loop-at.nodes) (g.N.Nodes.visited c.reach.new.nodes) c.args.names.now c.loop-at.names c.reach.new.names c.in-Some.n c.in_ok-at.field-0 c.loop-at.invariant.same c.loop-at.invariant.gets c.in-Some.is c.in_ok-at.ensures.reaches;
  uncollected = λ e. c.reach.ensures.uncollected (c.loop-at.invariant.uncollected e);
}
