use Rattle.std.proofs.Common.{drop}
use Rattle.ntx_num.proofs.Traces.{Goes}
use Rattle.ntx_lines.specs.LineEnd.{freed}
use Rattle.ntx_lines.proofs.line_end.discard.Given as goal

abbrev pub invariant-loop-n : goal.invariant-loop-n
invariant-loop-n g l =
    let heap = g.N.Nodes.heap in
    record { goes : Goes freed l.names (heap l.fn.nodes) (drop l.n-index l.names) (heap l.nodes) }
