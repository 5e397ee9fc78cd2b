use Rattle.std.proofs.Common.{rules}
use Rattle.std.proofs.lemmas.Map.Made.{map_same_pairs}
use Rattle.ntx_nodes.specs.declared.table.Slot.{Slot}
use Rattle.ntx_nodes.proofs.table.unmark.Goals as goal

pub returns : goal.returns
returns c = map_same_pairs _ (λ (slot : Slot). record { node = slot.node; walk = 0 }) _ (λ k v b w f' t. search rules) c.args.slots.now.entries c.retain.new.self.entries c.retain.ensures.filtered
