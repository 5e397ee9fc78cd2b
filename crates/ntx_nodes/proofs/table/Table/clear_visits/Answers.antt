use Rattle.std.proofs.Common.{◌≤◌, ap, ◌∙◌, sym, subst, arith}
use Rattle.ntx_nodes.specs.Plain.{slot_at, nodes_of, visited_of, last_walk, IsCounted}
use Rattle.ntx_nodes.proofs.Tables.{visited_of-above, nodes_unmarked, visited_unmarked, counted_unmarked}
use Rattle.ntx_nodes.proofs.table.Table.clear_visits.Goals as goal

pub invariant_of-self-in-None : goal.invariant_of-self-in-None
invariant_of-self-in-None c = subst (IsCounted 1) (sym c.unmark.ensures) (counted_unmarked c.self.inside.slots.entries)

pub returns-in-Some-clause-visited : goal.returns-in-Some-clause-visited
returns-in-Some-clause-visited c = visited_of-above c.in-Some.next c.self.inside.slots.entries (λ q.
    let low : last_walk (slot_at c.self.inside.slots.entries q) ≤ c.self.inside.walk = c.self.invariant.1 q in
    omega (arith, low))

pub returns-in-None-clause-nodes : goal.returns-in-None-clause-nodes
returns-in-None-clause-nodes c = ap nodes_of c.unmark.ensures ∙ nodes_unmarked c.self.inside.slots.entries ∙ ap (λ k. k.nodes) c.self.view_is

pub returns-in-None-clause-visited : goal.returns-in-None-clause-visited
returns-in-None-clause-visited c = ap (visited_of 1) c.unmark.ensures ∙ visited_unmarked c.self.inside.slots.entries
