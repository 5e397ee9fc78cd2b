use Rattle.std.proofs.Common.{◌∙◌}
use Rattle.ntx_lists.proofs.Places.{one_mark, room_found}
use Rattle.ntx_lists.proofs.insert.find_room.Goals as goal

pub returns-clause-finds : goal.returns-clause-finds
returns-clause-finds g c =
    room_found (g.N.Nodes.heap c.args.nodes.now) (g.N.Nodes.heap c.visit.new.self) c.args.head c.args.cur c.args.new c.in_ok-kind_of.field-0 c.in_ok-kind_of-2.field-0 c.in_ok-kind_of-3.field-0 (g.N.Nodes.visited c.visit.new.self) c.find.result
    (c.visit.ensures.same ∙ c.begin_walk.ensures.same) c.in_ok-kind_of.ensures c.in_ok-kind_of-2.ensures c.in_ok-kind_of-3.ensures
    (one_mark (g.N.Nodes.heap c.begin_walk.new.self) c.args.new (g.N.Nodes.visited c.begin_walk.new.self) (g.N.Nodes.visited c.visit.new.self) c.in_ok-visit.field-0 c.begin_walk.ensures.visits c.in_ok-visit.ensures.step) c.find.ensures.finds
