use Rattle.std.proofs.Common.{Ok, ap, ◌∙◌}
use Rattle.std.proofs.lemmas.Result.{err_from_is_err_and}
use Rattle.ntx_lists.proofs.Changes.{before_refused, before_second, before_done, head_is, head_stays, never}
use Rattle.ntx_lists.proofs.insert.insert_before.Goals as goal

pub returns-in_err-before : goal.returns-in_err-before
returns-in_err-before g c =
    let p = err_from_is_err_and c.from_residual.result c.from_residual.ensures.1 in
    record { step = rw (p.1, p.2) (before_refused (g.N.Nodes.heap c.args.nodes.now) (g.N.Nodes.heap c.find_room.new.nodes) c.args.head c.args.cur c.args.new _ c.in_err-before.ensures.finds c.find_room.ensures.same) }

pub returns-in_err-set_next_at : goal.returns-in_err-set_next_at
returns-in_err-set_next_at g c =
    let s = before_second (g.N.Nodes.heap c.args.nodes.now) (g.N.Nodes.heap c.find_room.new.nodes) (g.N.Nodes.heap c.set_next.new.nodes) (g.N.Nodes.heap c.set_next_at.new.nodes) c.args.head c.args.cur c.args.new c.in_ok-before.before
    c.set_next.result c.set_next_at.result c.in_ok-before.ensures.finds c.find_room.ensures.same c.set_next.ensures c.set_next_at.ensures in
    never _ c.set_next_at.result s.0 c.in_err-set_next_at.was

pub returns-then-head-cur : goal.returns-then-head-cur
returns-then-head-cur g c =
    let d = before_done (g.N.Nodes.heap c.args.nodes.now) (g.N.Nodes.heap c.find_room.new.nodes) (g.N.Nodes.heap c.set_next.new.nodes) (g.N.Nodes.heap c.set_next_at.new.nodes) c.args.head c.args.cur c.args.new c.in_ok-before.before
    c.set_next.result c.set_next_at.result c.in_ok-before.ensures.finds c.find_room.ensures.same c.set_next.ensures c.set_next_at.ensures in
    record { step = d ∙ ap (λ n. Ok (n, g.N.Nodes.heap c.set_next_at.new.nodes)) (head_is c.args.head c.args.cur c.args.new c.args.head c.if-head-cur.true) }

pub returns-else-head-cur : goal.returns-else-head-cur
returns-else-head-cur g c =
    let d = before_done (g.N.Nodes.heap c.args.nodes.now) (g.N.Nodes.heap c.find_room.new.nodes) (g.N.Nodes.heap c.set_next.new.nodes) (g.N.Nodes.heap c.set_next_at.new.nodes) c.args.head c.args.cur c.args.new c.in_ok-before.before
    c.set_next.result c.set_next_at.result c.in_ok-before.ensures.finds c.find_room.ensures.same c.set_next.ensures c.set_next_at.ensures in
    record { step = d ∙ ap (λ n. Ok (n, g.N.Nodes.heap c.set_next_at.new.nodes)) (head_stays c.args.head c.args.cur c.args.new c.args.head c.if-head-cur.false) }
