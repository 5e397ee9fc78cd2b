use Rattle.std.proofs.Common.{sym}
use Rattle.ntx_lines.proofs.Found.{box_measured}
use Rattle.ntx_lines.proofs.line_box.box_fields.Goals as goal

pub returns-in-Ok-clause-in_range : goal.returns-in-Ok-clause-in_range
returns-in-Ok-clause-in_range g c =
    box_measured (g.N.Nodes.heap c.args.nodes.now) c.args.n c.in-Ok.fields c.box_in.result c.lawful.ensures.lawful (sym c.in-Ok.ensures) c.box_in.ensures
