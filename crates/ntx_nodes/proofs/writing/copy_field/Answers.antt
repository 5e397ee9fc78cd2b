use Rattle.std.proofs.Common.{sym, ◌∙◌}
use Rattle.ntx_nodes.proofs.Fills.{copies_one, copies_absent}
use Rattle.ntx_nodes.proofs.writing.copy_field.Goals as goal

pub returns-in-Ok-clause-copies : goal.returns-in-Ok-clause-copies
returns-in-Ok-clause-copies g c = copies_one (g.N.Nodes.heap c.args.nodes.now) (g.N.Nodes.heap c.set-done.new.self) c.args.n c.args.from.now c.args.f c.in-Ok.v c.set-done.result (sym c.field.ensures ∙ c.in-Ok.is) c.set-done.ensures.step
