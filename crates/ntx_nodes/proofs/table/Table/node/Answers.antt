use Rattle.std.proofs.Common.{Some, None, sym, ◌∙◌, ap}
use Rattle.std.specs.Option.{option_copied}
use Rattle.ntx_nodes.proofs.Tables.{node_found}
use Rattle.ntx_nodes.proofs.table.Table.node.Goals as goal

pub returns-in-Some : goal.returns-in-Some
returns-in-Some c =
    node_found c.self.inside.slots.entries c.args.self.now.nodes c.args.n (Some c.in-Some.slot.now) (ap (λ k. k.nodes) c.self.view_is)
    (sym c.get.ensures.value ∙ ap option_copied c.in-Some.is)

pub returns-in-None : goal.returns-in-None
returns-in-None c =
    node_found c.self.inside.slots.entries c.args.self.now.nodes c.args.n None (ap (λ k. k.nodes) c.self.view_is)
    (sym c.get.ensures.value ∙ ap option_copied c.in-None.is)
