use Rattle.ntx_lists.proofs.Trees.{flush_done}
use Rattle.ntx_lists.proofs.free.flush_list.Goals as goal

pub returns : goal.returns
returns g c = record { step = flush_done (g.N.Nodes.heap c.args.nodes.now) (g.N.Nodes.heap c.visit_list.new.nodes) (g.N.Nodes.heap c.free_list.new.nodes) c.args.head tt c.in_ok-visit_list.ensures.answer c.visit_list.ensures.same c.free_list.ensures.frees }
