use Rattle.std.proofs.Common.{◌≡◌, true, false, not, ◌&&◌, arith}
use Rattle.std.proofs.lemmas.Int.{to_z-of_z}
use Rattle.std.specs.Prelude.{nat_le}
use Rattle.std.specs.FinMap as map
use Rattle.ntx_nodes.specs.Heap.{max_attributes, is_attribute}
use Rattle.ntx_nodes.proofs.AttributeSteps.{set-entries}
use Rattle.ntx_nodes.proofs.attributes.Attributes.set.Goals as goal

pub returns : goal.returns
returns c =
    let ranges : is_attribute c.args.id c.args.v ≡ true = grind arith in
    let room : (not (map.contains_key c.args.self.now c.args.id) && nat_le max_attributes (map.len c.args.self.now)) ≡ false = grind arith in
    set-entries c.self.inside.values.entries c.insert.new.self.entries c.args.id c.args.v _ _ c.args.self.now
    (to_z-of_z _ c.args.id c.ranges.id) (to_z-of_z _ c.args.v c.ranges.v) c.in_ok-insert.ensures.updates.0 c.self.view_is ranges room
