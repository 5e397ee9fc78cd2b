use Rattle.std.proofs.Common.{◌∙◌}
use Rattle.std.proofs.lemmas.Result.{err_from_is_err_and}
use Rattle.ntx_lists.proofs.Trees.{rooted, tree_first, tree_second, tree_third}
use Rattle.ntx_lists.proofs.links.visit_tree.Goals as goal

pub returns-in_err-visit_on-clause-answer : goal.returns-in_err-visit_on-clause-answer
returns-in_err-visit_on-clause-answer g c =
    let h = g.N.Nodes.heap in
    let v = g.N.Nodes.visited in
    let r = rooted (h c.args.nodes.now) (h c.begin_walk.new.self) (h c.visit.new.self) c.args.n (v c.begin_walk.new.self) (v c.visit.new.self) c.in_ok-visit.field-0 c.inner_lists-lists.result c.begin_walk.ensures.same c.visit.ensures.same c.begin_walk.ensures.visits c.in_ok-visit.ensures.step c.inner_lists-lists.ensures in
    let p = err_from_is_err_and c.from_residual-in_err-visit_on.result c.from_residual-in_err-visit_on.ensures.1 in
    rw (p.1, p.2) (tree_first (h c.args.nodes.now) (h c.visit.new.self) c.args.n (v c.visit.new.self) (v c.visit_on.new.nodes) c.inner_lists-lists.result _ r (c.visit.ensures.same ∙ c.begin_walk.ensures.same) c.in_err-visit_on.ensures.walks)

pub returns-in_err-visit_on-2-clause-answer : goal.returns-in_err-visit_on-2-clause-answer
returns-in_err-visit_on-2-clause-answer g c =
    let h = g.N.Nodes.heap in
    let v = g.N.Nodes.visited in
    let r = rooted (h c.args.nodes.now) (h c.begin_walk.new.self) (h c.visit.new.self) c.args.n (v c.begin_walk.new.self) (v c.visit.new.self) c.in_ok-visit.field-0 c.inner_lists-lists.result c.begin_walk.ensures.same c.visit.ensures.same c.begin_walk.ensures.visits c.in_ok-visit.ensures.step c.inner_lists-lists.ensures in
    let p = err_from_is_err_and c.from_residual-in_err-visit_on-2.result c.from_residual-in_err-visit_on-2.ensures.1 in
    rw (p.1, p.2) (tree_second (h c.args.nodes.now) (h c.visit.new.self) (h c.visit_on.new.nodes) c.args.n (v c.visit.new.self) (v c.visit_on.new.nodes) (v c.visit_on-2.new.nodes) c.inner_lists-lists.result tt _ r
    (c.visit.ensures.same ∙ c.begin_walk.ensures.same) c.in_ok-visit_on.ensures.walks (c.visit_on.ensures.same ∙ c.visit.ensures.same ∙ c.begin_walk.ensures.same) c.in_err-visit_on-2.ensures.walks)

pub returns-clause-answer : goal.returns-clause-answer
returns-clause-answer g c =
    let h = g.N.Nodes.heap in
    let v = g.N.Nodes.visited in
    let r = rooted (h c.args.nodes.now) (h c.begin_walk.new.self) (h c.visit.new.self) c.args.n (v c.begin_walk.new.self) (v c.visit.new.self) c.in_ok-visit.field-0 c.inner_lists-lists.result c.begin_walk.ensures.same c.visit.ensures.same c.begin_walk.ensures.visits c.in_ok-visit.ensures.step c.inner_lists-lists.ensures in
    tree_third (h c.args.nodes.now) (h c.visit.new.self) (h c.visit_on.new.nodes) (h c.visit_on-2.new.nodes) c.args.n (v c.visit.new.self) (v c.visit_on.new.nodes) (v c.visit_on-2.new.nodes) (v c.visit_on-3.new.nodes) c.inner_lists-lists.result tt tt c.visit_on-3.result r
    (c.visit.ensures.same ∙ c.begin_walk.ensures.same) c.in_ok-visit_on.ensures.walks (c.visit_on.ensures.same ∙ c.visit.ensures.same ∙ c.begin_walk.ensures.same) c.in_ok-visit_on-2.ensures.walks
    (c.visit_on-2.ensures.same ∙ c.visit_on.ensures.same ∙ c.visit.ensures.same ∙ c.begin_walk.ensures.same) c.visit_on-3.ensures.walks
