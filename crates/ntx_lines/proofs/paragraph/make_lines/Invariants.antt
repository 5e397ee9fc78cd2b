use Rattle.ntx_num.specs.Dimension.{IsDimension}
use Rattle.ntx_lines.proofs.AllLines.{Going}
use Rattle.ntx_lines.proofs.paragraph.make_lines.Given as goal

abbrev pub invariant-loop-i : goal.invariant-loop-i
invariant-loop-i g l =
    let heap = g.N.Nodes.heap in
    record {
      going : Going l.fonts l.params l.items l.names l.places (heap l.fn.nodes) l.above l.front l.from l.i (heap l.nodes);
      depth : IsDimension l.above.depth;
    }
