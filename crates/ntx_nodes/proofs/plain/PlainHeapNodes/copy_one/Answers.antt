use Rattle.std.proofs.Common.{◌≡◌, ℕ, ◌+◌, Ok, rules, arith}
use Rattle.std.specs.Prelude.{Result}
use Rattle.std.proofs.lemmas.Grind.{common_steps}
use Rattle.ntx_nodes.specs.Heap.{Heap}
use Rattle.ntx_nodes.specs.Steps.{copy_one_step}
use Rattle.ntx_nodes.specs.declared.trouble.Trouble.{Trouble}
use Rattle.ntx_nodes.proofs.StepLaws.{copy_one_step-lawful}
use Rattle.ntx_nodes.proofs.plain.PlainHeapNodes.copy_one.Goals as goal

pub invariant_of-self-2 : goal.invariant_of-self-2
invariant_of-self-2 c =
    let heap : Heap = record { next = c.self.inside.next; nodes = c.self.inside.table.nodes; current = c.self.inside.current } in
    let new : Heap = record { next = c.self.inside.next + 1; nodes = c.add.new.self.nodes; current = c.self.inside.current } in
    let step : ◌≡◌ {A = Result (ℕ × Heap) Trouble} (copy_one_step c.args.n heap) (Ok (c.self.inside.next, new)) = first_of (search rules, grind (arith, common_steps)) in
    copy_one_step-lawful heap c.args.n (c.self.inside.next, new) c.self.invariant step
