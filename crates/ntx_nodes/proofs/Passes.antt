-- Every heap of a pass is lawful.
use Rattle.std.proofs.Common.{◌≡◌, ℕ, ◌<◌, List, [], ◌∷◌, true, None, Some, refl}
use Rattle.std.specs.Prelude.{Option, is_some, All}
use Rattle.std.specs.FinMap as map
use Rattle.std.proofs.lemmas.List.Elements.{All-nil, All-cons}
use Rattle.ntx_nodes.specs.Heap.{Attributes, Heap, IsLawfulNode, IsLawful, AreLawful, is_live}
use Rattle.ntx_nodes.specs.Steps.{making}
use Rattle.ntx_nodes.specs.Writing.{AreMakable}
use Rattle.ntx_nodes.specs.Passes.{IsStep, by_making, by_making_filled, by_making_current, by_making_like, by_copying, by_freeing, by_setting, by_setting_ratio, by_setting_attribute, by_unsetting_attribute, by_sharing_attributes, by_setting_current, by_unsetting_current, by_wearing_current, AreSteps}
use Rattle.ntx_nodes.specs.declared.fields.Fields.{Fields}
use Rattle.ntx_nodes.specs.declared.node.Node.{Node}
use Rattle.ntx_nodes.proofs.Oks.{at_Ok}
use Rattle.ntx_nodes.proofs.Lawful.{no_attributes, making-lawful}
use Rattle.ntx_nodes.proofs.StepLaws.{make_step-lawful, copy_one_step-lawful, free_one_step-lawful, set_step-lawful, set_ratio_step-lawful, set_attr_step-lawful, unset_attr_step-lawful, same_attrs_step-lawful, set_current_step-lawful, unset_current_step-lawful, wear_current_step-lawful}

live_given : (heap : Heap) (m : ℕ) (o : Option Node) → map.get heap.nodes m ≡ o → IsLawful heap → is_some o ≡ true → m < heap.next
live_given heap m None at l h = cc
live_given heap m (Some node) at l h = l.names m node at

-- a node with fields that can be made
pub makable_node : (heap : Heap) (fields : Fields) (a : Attributes) → IsLawful heap → AreMakable heap fields → AreLawful a → IsLawfulNode heap.next (record { fields = fields; attributes = a })
makable_node heap fields a l makable lawful = record { numbers = makable.numbers; links = λ f m e. live_given heap m (map.get heap.nodes m) refl l (makable.links f m e); attributes = lawful }

pub step_lawful : (old new : Heap) → IsLawful old → IsStep old new → IsLawful new
step_lawful old new l (by_making kind subtype n h e) = make_step-lawful old kind subtype (n, new) l h e
step_lawful old new l (by_making_filled fields n h e) = making-lawful old _ (n, new) l (makable_node old fields map.empty l h no_attributes) e
step_lawful old new l (by_making_current fields n h e) = making-lawful old _ (n, new) l (makable_node old fields old.current l h l.current) e
step_lawful old new l (by_making_like fields from n h e) =
    let found = at_Ok {A = ℕ × Heap} old from (λ other. making (record { fields = fields; attributes = other.attributes }) old) (n, new) e in
    making-lawful old _ (n, new) l (makable_node old fields found.node.attributes l h (l.nodes from found.node found.is).attributes) found.gives
step_lawful old new l (by_copying n copy e) = copy_one_step-lawful old n (copy, new) l e
step_lawful old new l (by_freeing n e) = free_one_step-lawful old n (tt, new) l e
step_lawful old new l (by_setting n f v e) = set_step-lawful old n f v (tt, new) l e
step_lawful old new l (by_setting_ratio n sign order ratio s o e) = set_ratio_step-lawful old n sign order ratio (tt, new) l s o e
step_lawful old new l (by_setting_attribute n id v e) = set_attr_step-lawful old n id v (tt, new) l e
step_lawful old new l (by_unsetting_attribute n id e) = unset_attr_step-lawful old n id (tt, new) l e
step_lawful old new l (by_sharing_attributes n from e) = same_attrs_step-lawful old n from (tt, new) l e
step_lawful old new l (by_setting_current id v e) = set_current_step-lawful old id v (tt, new) l e
step_lawful old new l (by_unsetting_current id e) = unset_current_step-lawful old id (tt, new) l e
step_lawful old new l (by_wearing_current n e) = wear_current_step-lawful old n (tt, new) l e

pub steps_lawful : (first : Heap) (heaps : List Heap) → IsLawful first → AreSteps first heaps → All IsLawful heaps
steps_lawful first [] l steps = All-nil IsLawful
steps_lawful first (next ∷ rest) l steps = let here = step_lawful first next l steps.0 in All-cons IsLawful next rest here (steps_lawful next rest here steps.1)
