use Rattle.std.proofs.lemmas.Result.{err_from_is_err_and}
use Rattle.ntx_lists.proofs.Making.{rest_first, rest_second, rest_third, rest_last}
use Rattle.ntx_lists.proofs.copy.make_rest.Goals as goal

pub returns-in_err-make_list : goal.returns-in_err-make_list
returns-in_err-make_list g c =
    let h = g.N.Nodes.heap in
    let p = err_from_is_err_and c.from_residual.result c.from_residual.ensures.1 in
    rw (p.1, p.2) (rest_first (h c.args.nodes.now) (h c.make_list.new.nodes) c.args.lists c.args.next _ c.in_err-make_list.ensures.makes)

pub returns-in_err-make_list-2 : goal.returns-in_err-make_list-2
returns-in_err-make_list-2 g c =
    let h = g.N.Nodes.heap in
    let p = err_from_is_err_and c.from_residual-in_err-make_list-2.result c.from_residual-in_err-make_list-2.ensures.1 in
    rw (p.1, p.2) (rest_second (h c.args.nodes.now) (h c.make_list.new.nodes) (h c.make_list-2.new.nodes) c.args.lists c.args.next tt _ c.in_ok-make_list.ensures.makes c.in_err-make_list-2.ensures.makes)

pub returns-in_err-make_list-3 : goal.returns-in_err-make_list-3
returns-in_err-make_list-3 g c =
    let h = g.N.Nodes.heap in
    let p = err_from_is_err_and c.from_residual-in_err-make_list-3.result c.from_residual-in_err-make_list-3.ensures.1 in
    rw (p.1, p.2) (rest_third (h c.args.nodes.now) (h c.make_list.new.nodes) (h c.make_list-2.new.nodes) (h c.make_list-3.new.nodes) c.args.lists c.args.next tt tt _ c.in_ok-make_list.ensures.makes c.in_ok-make_list-2.ensures.makes c.in_err-make_list-3.ensures.makes)

pub returns : goal.returns
returns g c =
    let h = g.N.Nodes.heap in
    rest_last (h c.args.nodes.now) (h c.make_list.new.nodes) (h c.make_list-2.new.nodes) (h c.make_list-3.new.nodes) (h c.make_list-4.new.nodes) c.args.lists c.args.next tt tt tt c.make_list-4.result c.in_ok-make_list.ensures.makes c.in_ok-make_list-2.ensures.makes c.in_ok-make_list-3.ensures.makes c.make_list-4.ensures.makes
