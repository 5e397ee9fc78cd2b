use Rattle.std.proofs.Common.{Err, ap, ◌∙◌}
use Rattle.ntx_nodes.proofs.Fills.{current_made, current_refuses_nothing}
use Rattle.ntx_nodes.proofs.writing.make_current.Goals as goal

pub unreachable-requires : goal.unreachable-requires
unreachable-requires g c =
    current_refuses_nothing (g.N.Nodes.heap c.args.nodes.now) (g.N.Nodes.heap c.make_filled.new.nodes) (g.N.Nodes.heap c.wear_current.new.self) c.in_ok-n.n c.args.fields c.wear_current.result _ c.in_ok-n.ensures.step (c.in-Err-Is.is ∙ ap Err c.in-Err-Is.field-0-is) c.wear_current.ensures.step

pub returns-in-Ok-clause-step : goal.returns-in-Ok-clause-step
returns-in-Ok-clause-step g c = current_made (g.N.Nodes.heap c.args.nodes.now) (g.N.Nodes.heap c.make_filled.new.nodes) (g.N.Nodes.heap c.wear_current.new.self) c.in_ok-n.n c.args.fields c.in_ok-n.ensures.step c.in-Ok.ensures.step
