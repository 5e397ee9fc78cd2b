use Rattle.std.proofs.Common.{subst}
use Rattle.ntx_num.specs.Trace.{EndsAs}
use Rattle.ntx_nodes.specs.declared.field.Field.TheVariants.{Subtype}
use Rattle.ntx_nodes.specs.declared.field.FieldValue.{FieldValue}
use Rattle.ntx_lines.specs.Making as made
use Rattle.ntx_lines.proofs.line_box.name_line.Goals as goal

pub returns : goal.returns
returns g c =
    let h = g.N.Nodes.heap in
    subst (λ (v : FieldValue). EndsAs c.set.result (h c.set.new.nodes) (made.set c.args.n (Subtype, v) (h c.args.nodes.now))) c.line_mark.ensures c.set.ensures
