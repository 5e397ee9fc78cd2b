use Rattle.std.proofs.Common.{◌≡◌, ◌≤◌, sym, subst, arith}
use Rattle.ntx_nodes.specs.Heap.{Heap, IsLawful, name_limit}
use Rattle.ntx_nodes.specs.Steps.{empty_heap}
use Rattle.ntx_nodes.proofs.Lawful.{empty_heap-lawful}
use Rattle.ntx_nodes.proofs.plain.PlainHeap.new.Goals as goal

pub invariant_of-result : goal.invariant_of-result
invariant_of-result c =
    let below : c.args.first ≤ name_limit = omega arith in
    let made : Heap = record { next = c.args.first; nodes = c.new.result.nodes; current = c.new-2.result } in
    let is : made ≡ empty_heap c.args.first = λ i. record { next = c.args.first; nodes = c.new.ensures.nodes i; current = c.new-2.ensures i } in
    subst IsLawful (sym is) (empty_heap-lawful c.args.first below)
