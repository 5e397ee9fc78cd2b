use Rattle.std.proofs.Common.{drop}
use Rattle.ntx_num.proofs.Traces.{Goes}
use Rattle.ntx_lines.specs.Making.{set}
use Rattle.ntx_lines.proofs.making.set_all.Given as goal

abbrev pub invariant-loop-value : goal.invariant-loop-value
invariant-loop-value g l =
    let heap = g.N.Nodes.heap in
    record { goes : Goes (set l.n) l.values (heap l.fn.nodes) (drop l.value-index l.values) (heap l.nodes) }
