use Rattle.ntx_lists.proofs.Trees.{free_tree_done}
use Rattle.ntx_lists.proofs.free.free_tree.Goals as goal

pub returns : goal.returns
returns g c = record {
  step = free_tree_done (g.N.Nodes.heap c.args.nodes.now) (g.N.Nodes.heap c.visit_tree.new.nodes) (g.N.Nodes.heap c.free_one.new.self) (g.N.Nodes.heap c.free_list.new.nodes) (g.N.Nodes.heap c.free_list-2.new.nodes) (g.N.Nodes.heap c.free_list-3.new.nodes) c.args.n c.inner_lists-lists.result tt tt
      c.in_ok-visit_tree.ensures.answer c.visit_tree.ensures.same c.inner_lists-lists.ensures c.in_ok-free_one.ensures.step c.free_list.ensures.frees c.free_list-2.ensures.frees c.free_list-3.ensures.frees;
}
