use Rattle.std.proofs.Common.{◌≡◌, Ok, rules, arith}
use Rattle.std.specs.Prelude.{Result}
use Rattle.std.proofs.lemmas.Grind.{common_steps}
use Rattle.ntx_nodes.specs.Heap.{Heap}
use Rattle.ntx_nodes.specs.Steps.{wear_current_step}
use Rattle.ntx_nodes.specs.declared.trouble.Trouble.{Trouble}
use Rattle.ntx_nodes.proofs.StepLaws.{wear_current_step-lawful}
use Rattle.ntx_nodes.proofs.plain.PlainHeapNodes.wear_current.Goals as goal

pub invariant_of-self : goal.invariant_of-self
invariant_of-self c =
    let heap : Heap = record { next = c.self.inside.next; nodes = c.self.inside.table.nodes; current = c.self.inside.current } in
    let new : Heap = record { next = c.self.inside.next; nodes = c.put_attributes.new.self.nodes; current = c.self.inside.current } in
    let step : ◌≡◌ {A = Result (Unit {0} × Heap) Trouble} (wear_current_step c.args.n heap) (Ok (tt, new)) = first_of (search rules, grind (arith, common_steps)) in
    wear_current_step-lawful heap c.args.n (tt, new) c.self.invariant step
