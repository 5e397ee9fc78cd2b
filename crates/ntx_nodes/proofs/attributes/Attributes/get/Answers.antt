use Rattle.std.proofs.Common.{sym, ◌∙◌, ap}
use Rattle.std.proofs.lemmas.Int.{to_z-of_z}
use Rattle.std.specs.Cmp.{int_cmp_total}
use Rattle.std.specs.Ordering.{int_cmp}
use Rattle.std.specs.Map.{lookup}
use Rattle.std.specs.BTreeMap.{is_at}
use Rattle.std.specs.FinMap as map
use Rattle.ntx_nodes.proofs.Maps.{get-entries}
use Rattle.ntx_nodes.proofs.attributes.Attributes.get.Goals as goal

pub returns : goal.returns
returns c =
    c.copied.ensures ∙ c.get.ensures.value
    ∙ ap (λ i. lookup (is_at (int_cmp i)) c.self.inside.values.entries) (to_z-of_z _ c.args.id c.ranges.id)
    ∙ sym (get-entries int_cmp_total c.self.inside.values.entries c.args.id) ∙ ap (λ m. map.get m c.args.id) c.self.view_is
