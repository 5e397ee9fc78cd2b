use Rattle.std.proofs.Common.{Ok, Some, ap, ◌∙◌}
use Rattle.std.proofs.lemmas.Result.{err_from_is_err_and}
use Rattle.ntx_lists.proofs.Changes.{remove_refused, remove_second, remove_done, head_is, head_stays, never}
use Rattle.ntx_lists.proofs.insert.remove.Goals as goal

pub returns-in_err-before : goal.returns-in_err-before
returns-in_err-before g c =
    let p = err_from_is_err_and c.from_residual.result c.from_residual.ensures.1 in
    record { step = rw (p.1, p.2) (remove_refused (g.N.Nodes.heap c.args.nodes.now) (g.N.Nodes.heap c.find_in.new.nodes) c.args.head c.args.cur _ c.in_err-before.ensures.finds c.find_in.ensures.same) }

pub returns-in_err-set_next : goal.returns-in_err-set_next
returns-in_err-set_next g c =
    let s = remove_second (g.N.Nodes.heap c.args.nodes.now) (g.N.Nodes.heap c.find_in.new.nodes) (g.N.Nodes.heap c.set_next_at.new.nodes) (g.N.Nodes.heap c.set_next.new.nodes) c.args.head c.args.cur c.in_ok-before.before c.following-after.result
    c.set_next_at.result c.set_next.result c.in_ok-before.ensures.finds c.find_in.ensures.same c.following-after.ensures c.set_next_at.ensures c.set_next.ensures in
    never _ c.set_next.result s.0 c.in_err-set_next.was

pub returns-then-head-cur : goal.returns-then-head-cur
returns-then-head-cur g c =
    let d = remove_done (g.N.Nodes.heap c.args.nodes.now) (g.N.Nodes.heap c.find_in.new.nodes) (g.N.Nodes.heap c.set_next_at.new.nodes) (g.N.Nodes.heap c.set_next.new.nodes) c.args.head c.args.cur c.in_ok-before.before c.following-after.result
    c.set_next_at.result c.set_next.result c.in_ok-before.ensures.finds c.find_in.ensures.same c.following-after.ensures c.set_next_at.ensures c.set_next.ensures in
    record { step = d ∙ ap (λ n. Ok ((n, c.following-after.result), g.N.Nodes.heap c.set_next.new.nodes)) (head_is c.args.head c.args.cur c.following-after.result (Some c.args.head) c.if-head-cur.true) }

pub returns-else-head-cur : goal.returns-else-head-cur
returns-else-head-cur g c =
    let d = remove_done (g.N.Nodes.heap c.args.nodes.now) (g.N.Nodes.heap c.find_in.new.nodes) (g.N.Nodes.heap c.set_next_at.new.nodes) (g.N.Nodes.heap c.set_next.new.nodes) c.args.head c.args.cur c.in_ok-before.before c.following-after.result
    c.set_next_at.result c.set_next.result c.in_ok-before.ensures.finds c.find_in.ensures.same c.following-after.ensures c.set_next_at.ensures c.set_next.ensures in
    record { step = d ∙ ap (λ n. Ok ((n, c.following-after.result), g.N.Nodes.heap c.set_next.new.nodes)) (head_stays c.args.head c.args.cur c.following-after.result (Some c.args.head) c.if-head-cur.false) }
