use Rattle.std.proofs.Common.{Some, Ok, ap, sym, ◌∙◌, subst, rules}
use Rattle.std.proofs.lemmas.Int.{to_z-of_z}
use Rattle.std.specs.Prelude.{Option, IfSome, Result}
use Rattle.std.specs.FinMap as map
use Rattle.ntx_nodes.specs.Heap.{Attributes}
use Rattle.ntx_nodes.specs.Plain.{Puts, ChangesAttributes}
use Rattle.ntx_nodes.specs.declared.table.Slot.{Slot}
use Rattle.ntx_nodes.specs.declared.trouble.Trouble.{Trouble}
use Rattle.ntx_nodes.proofs.table.unset_attribute.Goals as goal

pub returns-in-Some-clause-live : goal.returns-in-Some-clause-live
returns-in-Some-clause-live c =
    let slot : Slot = record { node = record { fields = c.in-Some.slot.now.node.fields; attributes = c.unset.new.self }; walk = c.in-Some.slot.now.walk } in
    let puts : Puts c.args.slots.now.entries (c.get_mut.follows.lender slot).entries c.args.n (Some slot) = search rules in
    let gone = c.unset.ensures ∙ ap (map.remove c.in-Some.slot.now.node.attributes) (to_z-of_z _ c.args.id c.ranges.id) in
    subst (λ (o : Option Slot). IfSome o (λ slot. ChangesAttributes c.args.slots.now.entries (c.get_mut.follows.lender (record { node = record { fields = c.in-Some.slot.now.node.fields; attributes = c.unset.new.self }; walk = c.in-Some.slot.now.walk })).entries c.args.n slot (Ok (map.remove slot.node.attributes c.args.id)) (Ok tt))) c.in-Some.ensures.value (c.unset.new.self, ap {B = Result (Unit {0} × Attributes) Trouble} (λ a. Ok (tt, a)) (sym gone), puts)
