use Rattle.ntx_lists.proofs.CopyCalls.{tree_ends}
use Rattle.ntx_lists.proofs.copy.copy_tree.Goals as goal

pub returns : goal.returns
returns g c =
    let h = g.N.Nodes.heap in
    record { copies = tree_ends (h c.args.nodes.now) (h c.visit_tree.new.nodes) (h c.copy_node.new.nodes) c.args.n tt c.copy_node.result c.in-Ok.ensures.answer c.in-Ok.ensures.same c.copy_node.ensures }
