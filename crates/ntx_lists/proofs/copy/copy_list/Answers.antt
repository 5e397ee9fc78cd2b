use Rattle.std.proofs.lemmas.Result.{err_from_is_err_and}
use Rattle.ntx_lists.proofs.CopyCalls.{begins_there, list_done, list_failed}
use Rattle.ntx_lists.proofs.copy.copy_list.Goals as goal

pub returns-in_err-copy_node-in-Some : goal.returns-in_err-copy_node-in-Some
returns-in_err-copy_node-in-Some g c =
    let h = g.N.Nodes.heap in
    let p = err_from_is_err_and c.from_residual.result c.from_residual.ensures.1 in
    record {
      copies = rw (p.1, p.2, c.in-Some.is) (list_failed (h c.args.nodes.now) (h c.visit_list.new.nodes) (h c.copy_node.new.nodes) c.in-Some.n c.following-next.result tt _ (begins_there (h c.args.nodes.now) c.args.head c.in-Some.n tt c.in-Some.is c.in-Ok.ensures.answer) c.in-Ok.ensures.same c.following-next.ensures c.in_err-copy_node-in-Some.ensures);
    }

pub returns-in_ok-copy_node-in-Some : goal.returns-in_ok-copy_node-in-Some
returns-in_ok-copy_node-in-Some g c =
    let h = g.N.Nodes.heap in
    record {
      copies = rw c.in-Some.is (list_done (h c.args.nodes.now) (h c.visit_list.new.nodes) (h c.copy_node.new.nodes) c.in-Some.n c.in_ok-copy_node-in-Some.field-0 c.following-next.result tt (begins_there (h c.args.nodes.now) c.args.head c.in-Some.n tt c.in-Some.is c.in-Ok.ensures.answer) c.in-Ok.ensures.same c.following-next.ensures c.in_ok-copy_node-in-Some.ensures);
    }
