use Rattle.std.proofs.Common.{sym, ◌∙◌, ap}
use Rattle.std.specs.FinMap as map
use Rattle.ntx_nodes.proofs.Tables.{len-nodes_of}
use Rattle.ntx_nodes.proofs.table.Table.len.Goals as goal

pub returns : goal.returns
returns c = c.len.ensures.len ∙ sym (len-nodes_of c.self.inside.slots.entries c.len.ensures.ordered) ∙ ap (λ k. map.len k.nodes) c.self.view_is
