use Rattle.std.proofs.lemmas.Result.{err_from_is_err_and}
use Rattle.ntx_lists.proofs.CopyEnds.{node_done, node_stopped, node_refused}
use Rattle.ntx_lists.proofs.copy.copy_node.Goals as goal

pub returns-in_err-first : goal.returns-in_err-first
returns-in_err-first g c =
    let h = g.N.Nodes.heap in
    let p = err_from_is_err_and c.from_residual.result c.from_residual.ensures.1 in
    rw (p.1, p.2) (node_refused (h c.args.nodes.now) (h c.copy_one.new.self) c.args.n c.args.next c.inner_lists-lists.result _ c.lawful.ensures.lawful c.inner_lists-lists.ensures c.in_err-first.ensures.step)

pub returns-in-Ok : goal.returns-in-Ok
returns-in-Ok g c =
    let h = g.N.Nodes.heap in
    node_done (h c.args.nodes.now) (h c.copy_one.new.self) (h c.make_rest-made.new.nodes) (h c.link_rest.new.nodes) c.args.n c.in_ok-first.first c.args.next c.inner_lists-lists.result c.lawful.ensures.lawful c.in_ok-first.ensures.step c.inner_lists-lists.ensures tt c.in-Ok.ensures c.lawful-2.ensures.lawful c.link_rest.ensures.links

pub returns-in-Err : goal.returns-in-Err
returns-in-Err g c =
    let h = g.N.Nodes.heap in
    node_stopped (h c.args.nodes.now) (h c.copy_one.new.self) (h c.make_rest-made.new.nodes) (h c.free_run.new.nodes) c.args.n c.in_ok-first.first c.args.next c.inner_lists-lists.result c.lawful.ensures.lawful c.in_ok-first.ensures.step c.inner_lists-lists.ensures c.in-Err.why c.in-Err.ensures c.lawful-2.ensures.lawful c.free_run.ensures
