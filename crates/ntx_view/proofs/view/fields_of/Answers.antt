-- proofs/view/fields_of/Answers.antt
use Rattle.std.proofs.Common.{sym, ◌∙◌}
use Rattle.ntx_view.proofs.Measures.{measures_at}
use Rattle.ntx_view.proofs.view.fields_of.Goals as goal

pub returns-clause-measures : goal.returns-clause-measures
returns-clause-measures g c = measures_at (g.N.Nodes.heap c.args.nodes.now) c.args.n c.in-Ok.fields c.lawful.ensures.lawful (sym c.fields.ensures ∙ c.in-Ok.is)
