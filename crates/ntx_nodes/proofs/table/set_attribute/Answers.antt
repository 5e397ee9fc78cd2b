use Rattle.std.proofs.Common.{Some, subst, rules}
use Rattle.std.proofs.lemmas.Int.{to_z-of_z}
use Rattle.std.specs.Prelude.{Option, IfSome, Result}
use Rattle.ntx_num.specs.Answer.{result_map, Steps}
use Rattle.ntx_nodes.specs.Heap.{Attributes}
use Rattle.ntx_nodes.specs.Plain.{Puts, ChangesAttributes}
use Rattle.ntx_nodes.specs.Steps.{with_attribute}
use Rattle.ntx_nodes.specs.declared.table.Slot.{Slot}
use Rattle.ntx_nodes.specs.declared.trouble.Trouble.{Trouble}
use Rattle.ntx_nodes.proofs.table.set_attribute.Goals as goal

pub returns-in-Some-clause-live : goal.returns-in-Some-clause-live
returns-in-Some-clause-live c =
    let slot : Slot = record { node = record { fields = c.in-Some.slot.now.node.fields; attributes = c.set.new.self }; walk = c.in-Some.slot.now.walk } in
    let puts : Puts c.args.slots.now.entries (c.get_mut.follows.lender slot).entries c.args.n (Some slot) = search rules in
    let sets = subst (λ (x : Result Attributes Trouble). Steps c.set.result c.in-Some.slot.now.node.attributes c.set.new.self (result_map {B = Unit {0} × Attributes} (λ b. (tt, b)) x)) (λ i. with_attribute c.in-Some.slot.now.node.attributes (to_z-of_z _ c.args.id c.ranges.id i) (to_z-of_z _ c.args.v c.ranges.v i)) c.set.ensures in
    subst (λ (o : Option Slot). IfSome o (λ slot. ChangesAttributes c.args.slots.now.entries (c.get_mut.follows.lender (record { node = record { fields = c.in-Some.slot.now.node.fields; attributes = c.set.new.self }; walk = c.in-Some.slot.now.walk })).entries c.args.n slot (with_attribute slot.node.attributes c.args.id c.args.v) c.set.result)) c.in-Some.ensures.value (c.set.new.self, sets, puts)
