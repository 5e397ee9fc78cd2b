use Rattle.std.proofs.lemmas.Result.{err_from_is_err_and}
use Rattle.ntx_lines.proofs.Makings.{end_refused, end_stopped, end_done}
use Rattle.ntx_lines.proofs.making.make_at_end.Goals as goal

pub returns-in_err-n : goal.returns-in_err-n
returns-in_err-n g c =
    let h = g.N.Nodes.heap in
    let p = err_from_is_err_and c.from_residual.result c.from_residual.ensures.1 in
    rw (p.1, p.2) (end_refused c.args.fields c.args.last (h c.args.nodes.now) (h c.make_current.new.nodes) c.in_err-n.field-0.0 c.in_err-n.ensures.step)

pub returns-in_err-follow : goal.returns-in_err-follow
returns-in_err-follow g c =
    let h = g.N.Nodes.heap in
    let p = err_from_is_err_and c.from_residual-in_err-follow.result c.from_residual-in_err-follow.ensures.1 in
    rw (p.1, p.2) (end_stopped c.args.fields c.args.last (h c.args.nodes.now) (h c.make_current.new.nodes) (h c.follow.new.nodes) c.in_ok-n.n c.in_err-follow.field-0.0 c.in_ok-n.ensures.step c.in_err-follow.ensures)

pub returns : goal.returns
returns g c =
    let h = g.N.Nodes.heap in
    end_done c.args.fields c.args.last (h c.args.nodes.now) (h c.make_current.new.nodes) (h c.follow.new.nodes) c.in_ok-n.n _ c.in_ok-n.ensures.step c.in_ok-follow.ensures
