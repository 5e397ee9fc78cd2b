use Rattle.std.proofs.Common.{sym, subst}
use Rattle.ntx_nodes.specs.Writing.{AreMakable}
use Rattle.ntx_lines.proofs.Makings.{glue_makable}
use Rattle.ntx_lines.proofs.above.interline_fields.Goals as goal

pub returns-clause-makable : goal.returns-clause-makable
returns-clause-makable c heap =
    subst (AreMakable heap) (sym c.glue_fields.ensures) (glue_makable heap c.interline_subtype.result c.in_ok-spec.spec c.interline_subtype.ensures.byte c.in_ok-spec.ensures.in_range)
