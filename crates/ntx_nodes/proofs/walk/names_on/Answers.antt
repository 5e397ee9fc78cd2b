use Rattle.std.proofs.lemmas.Result.{err_from_is_err_and}
use Rattle.ntx_nodes.proofs.WholeWalks.{names_told, names_stopped}
use Rattle.ntx_nodes.proofs.walk.names_on.Goals as goal

pub returns-in_err-walk_list-clause-names : goal.returns-in_err-walk_list-clause-names
returns-in_err-walk_list-clause-names g c =
    let p = err_from_is_err_and c.from_residual.result c.from_residual.ensures.1 in
    rw (p.1, p.2) (names_stopped (g.N.Nodes.heap c.args.nodes.now) c.args.way c.args.head c.args.depth c.args.k (g.N.Nodes.visited c.args.nodes.now) (g.N.Nodes.visited c.walk_list.new.nodes) c.after-names.result c.walk_list.new.names c.args.old_names.items _ c.in_err-walk_list.ensures.walks)

pub returns-clause-names : goal.returns-clause-names
returns-clause-names g c =
    names_told (g.N.Nodes.heap c.args.nodes.now) c.args.way c.args.head c.args.depth c.args.k (g.N.Nodes.visited c.args.nodes.now) (g.N.Nodes.visited c.walk_list.new.nodes) c.after-names.result c.walk_list.new.names c.args.old_names.items c.into_names.result.items
    c.after-names.ensures c.in_ok-walk_list.ensures.walks c.into_names.ensures
