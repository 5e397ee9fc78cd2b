use Rattle.std.proofs.Common.{◌+◌, ◌<◌, ◌≤◌, ◌∙◌, refl, sym, subst, arith}
use Rattle.ntx_num.specs.Dimension.{max_nodes}
use Rattle.ntx_nodes.specs.Walker.{unvisited}
use Rattle.ntx_lists.proofs.Along.{Goes, turn, goes_begun, few_left}
use Rattle.ntx_lists.proofs.survey.go_along.Goals as goal

pub loop-at-init : goal.loop-at-init
loop-at-init g c = record {
  same = refl;
  goes = goes_begun (g.N.Nodes.heap c.args.nodes.now) c.args.head c.args.cur (g.N.Nodes.visited c.args.nodes.now);
  few = let h = few_left (g.N.Nodes.heap c.args.nodes.now) (g.N.Nodes.visited c.args.nodes.now) c.lawful.ensures.lawful in omega arith;
}

pub loop-at-smaller : goal.loop-at-smaller
loop-at-smaller g c =
    let t = turn (g.N.Nodes.heap c.loop-at.nodes) (g.N.Nodes.heap c.loop-at.nodes) (g.N.Nodes.heap c.visit.new.self) c.args.head c.args.cur c.in-Some.n c.loop-at.at c.following-at.result (g.N.Nodes.visited c.args.nodes.now) (g.N.Nodes.visited c.loop-at.nodes) (g.N.Nodes.visited c.visit.new.self) c.loop-at.seen c.with-seen.result c.in_ok-visit.field-0
    refl c.visit.ensures.same (subst (λ h. Goes h c.args.head c.args.cur (g.N.Nodes.visited c.args.nodes.now) c.loop-at.at (g.N.Nodes.visited c.loop-at.nodes) c.loop-at.seen) (sym c.loop-at.invariant.same) c.loop-at.invariant.goes) c.in-Some.is c.in_ok-visit.ensures.step c.if-not-branch.false c.with-seen.ensures c.following-at.ensures
    (subst (λ h. c.loop-at.seen.length + unvisited h (g.N.Nodes.visited c.loop-at.nodes) ≤ max_nodes) (sym c.loop-at.invariant.same) c.loop-at.invariant.few) in
    subst (λ h. unvisited h (g.N.Nodes.visited c.visit.new.self) < unvisited (g.N.Nodes.heap c.loop-at.nodes) (g.N.Nodes.visited c.loop-at.nodes)) (sym c.visit.ensures.same) t.less

pub loop-at-preserved : goal.loop-at-preserved
loop-at-preserved g c =
    let t = turn (g.N.Nodes.heap c.args.nodes.now) (g.N.Nodes.heap c.loop-at.nodes) (g.N.Nodes.heap c.visit.new.self) c.args.head c.args.cur c.in-Some.n c.loop-at.at c.following-at.result (g.N.Nodes.visited c.args.nodes.now) (g.N.Nodes.visited c.loop-at.nodes) (g.N.Nodes.visited c.visit.new.self) c.loop-at.seen c.with-seen.result c.in_ok-visit.field-0
    c.loop-at.invariant.same c.visit.ensures.same c.loop-at.invariant.goes c.in-Some.is c.in_ok-visit.ensures.step c.if-not-branch.false c.with-seen.ensures c.following-at.ensures c.loop-at.invariant.few in
    record { same = c.visit.ensures.same ∙ c.loop-at.invariant.same; goes = t.goes; few = t.few }
