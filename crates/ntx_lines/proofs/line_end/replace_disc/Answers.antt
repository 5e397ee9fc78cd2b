use Rattle.std.proofs.lemmas.Result.{err_from_is_err_and}
use Rattle.ntx_lines.proofs.Disc.{part_stops, flush_stops, join_stops, free_ends}
use Rattle.ntx_lines.proofs.line_end.replace_disc.Goals as goal

pub returns-in_err-follow : goal.returns-in_err-follow
returns-in_err-follow g c =
    let h = g.N.Nodes.heap in
    let p = err_from_is_err_and c.from_residual.result c.from_residual.ensures.1 in
    rw (p.1, p.2) (part_stops c.args.before c.args.n c.args.disc c.args.last_of_post c.args.after (h c.args.nodes.now) (h c.follow.new.nodes) c.in_err-follow.field-0.0 c.in_err-follow.ensures)

pub returns-in_err-follow-2 : goal.returns-in_err-follow-2
returns-in_err-follow-2 g c =
    let h = g.N.Nodes.heap in
    let p = err_from_is_err_and c.from_residual-in_err-follow-2.result c.from_residual-in_err-follow-2.ensures.1 in
    rw (p.1, p.2) (join_stops c.args.before c.args.n c.args.disc c.args.last_of_post c.args.after (h c.args.nodes.now) (h c.follow.new.nodes) (h c.flush.new.nodes) (h c.follow-2.new.nodes) _ _ c.in_err-follow-2.field-0.0 c.in_ok-follow.ensures c.in_ok-flush.ensures c.in_err-follow-2.ensures)

pub returns-in_err-flush : goal.returns-in_err-flush
returns-in_err-flush g c =
    let h = g.N.Nodes.heap in
    let p = err_from_is_err_and c.from_residual-in_err-flush.result c.from_residual-in_err-flush.ensures.1 in
    rw (p.1, p.2) (flush_stops c.args.before c.args.n c.args.disc c.args.last_of_post c.args.after (h c.args.nodes.now) (h c.follow.new.nodes) (h c.flush.new.nodes) _ c.in_err-flush.field-0.0 c.in_ok-follow.ensures c.in_err-flush.ensures)

pub returns : goal.returns
returns g c =
    let h = g.N.Nodes.heap in
    free_ends c.args.before c.args.n c.args.disc c.args.last_of_post c.args.after (h c.args.nodes.now) (h c.follow.new.nodes) (h c.flush.new.nodes) (h c.follow-2.new.nodes) (h c.free.new.nodes) _ _ _ c.free.result c.in_ok-follow.ensures c.in_ok-flush.ensures c.in_ok-follow-2.ensures c.free.ensures
