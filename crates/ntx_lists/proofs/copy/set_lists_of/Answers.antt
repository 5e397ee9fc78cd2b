use Rattle.std.proofs.Common.{◌∙◌, sym}
use Rattle.ntx_lists.proofs.Relinks.{lists_of_none}
use Rattle.ntx_lists.proofs.copy.set_lists_of.Goals as goal

pub returns-else-is_disc-clause-sets : goal.returns-else-is_disc-clause-sets
returns-else-is_disc-clause-sets g c = lists_of_none (g.N.Nodes.heap c.args.nodes.now) c.args.n c.args.lists c.args.kind (sym c.is_box.ensures ∙ c.if-is_box.false) (sym c.is_disc.ensures ∙ c.if-is_disc.false)
