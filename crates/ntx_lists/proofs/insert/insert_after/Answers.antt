use Rattle.std.proofs.lemmas.Result.{err_from_is_err_and}
use Rattle.ntx_lists.proofs.Changes.{after_refused, after_second, after_done, never}
use Rattle.ntx_lists.proofs.insert.insert_after.Goals as goal

pub returns-in_err-find_room : goal.returns-in_err-find_room
returns-in_err-find_room g c =
    let p = err_from_is_err_and c.from_residual.result c.from_residual.ensures.1 in
    record { step = rw (p.1, p.2) (after_refused (g.N.Nodes.heap c.args.nodes.now) (g.N.Nodes.heap c.find_room.new.nodes) c.args.head c.args.cur c.args.new _ c.in_err-find_room.ensures.finds c.find_room.ensures.same) }

pub returns-in_err-set_next-2 : goal.returns-in_err-set_next-2
returns-in_err-set_next-2 g c =
    let s = after_second (g.N.Nodes.heap c.args.nodes.now) (g.N.Nodes.heap c.find_room.new.nodes) (g.N.Nodes.heap c.set_next.new.nodes) (g.N.Nodes.heap c.set_next-2.new.nodes) c.args.head c.args.cur c.args.new c.in_ok-find_room.field-0 c.following-after.result
    c.set_next.result c.set_next-2.result c.in_ok-find_room.ensures.finds c.find_room.ensures.same c.following-after.ensures c.set_next.ensures c.set_next-2.ensures in
    never _ c.set_next-2.result s.0 c.in_err-set_next-2.was

pub returns : goal.returns
returns g c = record {
  step = after_done (g.N.Nodes.heap c.args.nodes.now) (g.N.Nodes.heap c.find_room.new.nodes) (g.N.Nodes.heap c.set_next.new.nodes) (g.N.Nodes.heap c.set_next-2.new.nodes) c.args.head c.args.cur c.args.new c.in_ok-find_room.field-0 c.following-after.result
      c.set_next.result c.set_next-2.result c.in_ok-find_room.ensures.finds c.find_room.ensures.same c.following-after.ensures c.set_next.ensures c.set_next-2.ensures;
}
