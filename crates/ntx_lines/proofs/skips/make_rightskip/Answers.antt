use Rattle.std.proofs.Common.{sym, subst, arith}
use Rattle.ntx_nodes.specs.Writing.{AreMakable}
use Rattle.ntx_lines.proofs.Makings.{glue_makable}
use Rattle.ntx_lines.proofs.skips.make_rightskip.Goals as goal

pub make_at_end-requires : goal.make_at_end-requires
make_at_end-requires g c =
    let heap = g.N.Nodes.heap c.args.nodes.now in
    subst (AreMakable heap) (sym c.glue_fields.ensures) (glue_makable heap 9 c.rightskip.result (omega arith) c.rightskip.ensures.in_range)
