use Rattle.std.proofs.Common.{◌∙◌, ap}
use Rattle.std.proofs.lemmas.Int.{to_z-of_z}
use Rattle.std.specs.Cmp.{int_cmp_total}
use Rattle.std.specs.FinMap as map
use Rattle.ntx_nodes.proofs.Maps.{from_entries-removed}
use Rattle.ntx_nodes.proofs.attributes.Attributes.unset.Goals as goal

pub returns : goal.returns
returns c =
    from_entries-removed int_cmp_total map.int_cmp-IsAntisymmetric c.self.inside.values.entries c.remove-before.new.self.entries _ c.remove-before.ensures.updates.0
    ∙ ap (λ i. map.remove (map.from_entries c.self.inside.values.entries) i) (to_z-of_z _ c.args.id c.ranges.id)
    ∙ ap (λ m. map.remove m c.args.id) c.self.view_is
