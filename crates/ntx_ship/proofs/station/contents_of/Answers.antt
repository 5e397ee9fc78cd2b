use Rattle.std.proofs.Common.{sym, ◌∙◌}
use Rattle.ntx_ship.proofs.Ranges.{ranges_at}
use Rattle.ntx_ship.proofs.station.contents_of.Goals as goal

pub returns-in-Ok-clause-ranges : goal.returns-in-Ok-clause-ranges
returns-in-Ok-clause-ranges g c = ranges_at (g.N.Nodes.heap c.args.nodes.now) c.args.n c.in-Ok.fields c.lawful.ensures.lawful (sym c.fields.ensures ∙ c.in-Ok.is)
