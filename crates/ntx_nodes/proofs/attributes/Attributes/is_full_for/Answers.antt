use Rattle.std.proofs.Common.{◌≡◌, sym, ◌∙◌, ap, not, ◌&&◌}
use Rattle.std.specs.Prelude.{nat_le, is_some}
use Rattle.std.proofs.lemmas.Int.{to_z-of_z}
use Rattle.std.specs.Cmp.{int_cmp_total}
use Rattle.std.specs.Ordering.{int_cmp}
use Rattle.std.specs.Map.{lookup}
use Rattle.std.specs.BTreeMap.{is_at}
use Rattle.std.specs.FinMap as map
use Rattle.ntx_nodes.specs.Heap.{max_attributes}
use Rattle.ntx_nodes.proofs.Maps.{get-entries, len-entries}
use Rattle.ntx_nodes.proofs.attributes.Attributes.is_full_for.Goals as goal

pub returns-then-not-contains_key : goal.returns-then-not-contains_key
returns-then-not-contains_key c =
    let has : c.contains_key.result ≡ map.contains_key c.args.self.now c.args.id =
    c.contains_key.ensures
    ∙ ap (λ i. is_some (lookup (is_at (int_cmp i)) c.self.inside.values.entries)) (to_z-of_z _ c.args.id c.ranges.id)
    ∙ ap is_some (sym (get-entries int_cmp_total c.self.inside.values.entries c.args.id)) ∙ ap (λ m. map.contains_key m c.args.id) c.self.view_is in
    let size : c.len.result ≡ map.len c.args.self.now =
    c.len.ensures.len ∙ sym (len-entries int_cmp_total c.self.inside.values.entries c.len.ensures.ordered) ∙ ap map.len c.self.view_is in
    ap (λ n. nat_le max_attributes n) size ∙ ap (λ b. not b && nat_le max_attributes (map.len c.args.self.now)) (sym c.if-not-contains_key.true ∙ has)

pub returns-else-not-contains_key : goal.returns-else-not-contains_key
returns-else-not-contains_key c =
    let has : c.contains_key.result ≡ map.contains_key c.args.self.now c.args.id =
    c.contains_key.ensures
    ∙ ap (λ i. is_some (lookup (is_at (int_cmp i)) c.self.inside.values.entries)) (to_z-of_z _ c.args.id c.ranges.id)
    ∙ ap is_some (sym (get-entries int_cmp_total c.self.inside.values.entries c.args.id)) ∙ ap (λ m. map.contains_key m c.args.id) c.self.view_is in
    ap not c.if-not-contains_key.false ∙ ap (λ b. not b && nat_le max_attributes (map.len c.args.self.now)) (sym c.if-not-contains_key.false ∙ has)
