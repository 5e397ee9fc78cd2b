use Rattle.std.proofs.lemmas.Result.{err_from_is_err_and}
use Rattle.ntx_lines.proofs.Disc.{pre_stops, post_stops, replace_stops}
use Rattle.ntx_lines.proofs.line_end.end_at_disc.Goals as goal

pub returns-in_err-pre : goal.returns-in_err-pre
returns-in_err-pre g c =
    let h = g.N.Nodes.heap in
    let p = err_from_is_err_and c.from_residual.result c.from_residual.ensures.1 in
    rw (p.1, p.2) (pre_stops c.args.body c.args.n c.args.disc c.args.after (h c.args.nodes.now) (h c.ends_at.new.nodes) c.in_err-pre.field-0.0 c.in_err-pre.ensures)

pub returns-in_err-post : goal.returns-in_err-post
returns-in_err-post g c =
    let h = g.N.Nodes.heap in
    let p = err_from_is_err_and c.from_residual-in_err-post.result c.from_residual-in_err-post.ensures.1 in
    rw (p.1, p.2) (post_stops c.args.body c.args.n c.args.disc c.args.after (h c.args.nodes.now) (h c.ends_at.new.nodes) (h c.ends_at-2.new.nodes) c.in_ok-pre.pre c.in_err-post.field-0.0 c.in_ok-pre.ensures c.in_err-post.ensures)

pub returns-in_err-replace_disc : goal.returns-in_err-replace_disc
returns-in_err-replace_disc g c =
    let h = g.N.Nodes.heap in
    let p = err_from_is_err_and c.from_residual-in_err-replace_disc.result c.from_residual-in_err-replace_disc.ensures.1 in
    rw (p.1, p.2) (replace_stops c.args.body c.args.n c.args.disc c.args.after (h c.args.nodes.now) (h c.ends_at.new.nodes) (h c.ends_at-2.new.nodes) (h c.replace_disc.new.nodes) c.in_ok-pre.pre c.in_ok-post.post c.in_err-replace_disc.field-0.0 c.in_ok-pre.ensures c.in_ok-post.ensures c.in_err-replace_disc.ensures)
