use Rattle.std.proofs.Common.{None, ap, ◌∙◌, arith}
use Rattle.std.specs.FinMap as map
use Rattle.std.specs.FinSet as set
use Rattle.ntx_nodes.proofs.Tables.{nodes_of-taken, visited_of-taken, counted_put}
use Rattle.ntx_nodes.proofs.table.Table.remove.Goals as goal

pub invariant_of-self : goal.invariant_of-self
invariant_of-self c = counted_put c.self.inside.walk c.self.inside.slots.entries c.remove-before.new.self.entries c.args.n None c.self.invariant c.remove-before.ensures.updates.0 (omega arith)

pub returns : goal.returns
returns c = record {
  nodes = nodes_of-taken c.self.inside.slots.entries c.remove-before.new.self.entries c.args.n c.remove-before.ensures.updates.0 ∙ ap (λ k. map.remove k.nodes c.args.n) c.self.view_is;
  visited = visited_of-taken c.self.inside.walk c.self.inside.slots.entries c.remove-before.new.self.entries c.args.n c.remove-before.ensures.updates.0 ∙ ap (λ k. set.remove k.visited c.args.n) c.self.view_is;
}
