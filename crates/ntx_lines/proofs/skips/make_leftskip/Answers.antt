use Rattle.std.proofs.Common.{sym, subst, arith}
use Rattle.ntx_nodes.specs.Writing.{AreMakable}
use Rattle.ntx_lines.proofs.Makings.{glue_makable}
use Rattle.ntx_lines.proofs.skips.make_leftskip.Goals as goal

pub make_before-requires : goal.make_before-requires
make_before-requires g c =
    let heap = g.N.Nodes.heap c.args.nodes.now in
    subst (AreMakable heap) (sym c.glue_fields.ensures) (glue_makable heap 8 c.finite.result (omega arith) c.finite.ensures.in_range)
