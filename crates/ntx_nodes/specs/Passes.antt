-- Heaps in the middle of a pass, which takes one step after another.
--     IsStep old new           one step leads from a heap to another
--     AreSteps first heaps     each of these heaps follows from the one before it by one step
use Rattle.std.specs.Prelude.{◌≡◌, ◌≤◌, ℕ, ℤ, List, [], ◌∷◌, Ok}
use Rattle.ntx_nodes.specs.Fields.{last_subtype}
use Rattle.ntx_nodes.specs.Heap.{Heap}
use Rattle.ntx_nodes.specs.Steps.{make_step, copy_one_step, free_one_step, set_step, set_ratio_step, set_attr_step, unset_attr_step, same_attrs_step, set_current_step, unset_current_step, wear_current_step}
use Rattle.ntx_nodes.specs.Writing.{AreMakable, make_filled_step, make_current_step, make_like_step}
use Rattle.ntx_nodes.specs.declared.kind.Kind.{Kind}
use Rattle.ntx_nodes.specs.declared.field.Field.{Field}
use Rattle.ntx_nodes.specs.declared.field.FieldValue.{FieldValue}
use Rattle.ntx_nodes.specs.declared.fields.Fields.{Fields}
use Rattle.ntx_nodes.specs.declared.ratio.Ratio.{Ratio}

pub data IsStep (old new : Heap) : Type 0 where
  by_making : (kind : Kind) (subtype n : ℕ) → subtype ≤ last_subtype kind → make_step kind subtype old ≡ Ok (n, new) → IsStep old new
  by_making_filled : (fields : Fields) (n : ℕ) → AreMakable old fields → make_filled_step fields old ≡ Ok (n, new) → IsStep old new
  by_making_current : (fields : Fields) (n : ℕ) → AreMakable old fields → make_current_step fields old ≡ Ok (n, new) → IsStep old new
  by_making_like : (fields : Fields) (from n : ℕ) → AreMakable old fields → make_like_step fields from old ≡ Ok (n, new) → IsStep old new
  by_copying : (n copy : ℕ) → copy_one_step n old ≡ Ok (copy, new) → IsStep old new
  by_freeing : (n : ℕ) → free_one_step n old ≡ Ok (tt, new) → IsStep old new
  by_setting : (n : ℕ) (f : Field) (v : FieldValue) → set_step n f v old ≡ Ok (tt, new) → IsStep old new
  by_setting_ratio : (n sign order : ℕ) (ratio : Ratio) → sign ≤ 2 → order ≤ 3 → set_ratio_step n sign order ratio old ≡ Ok (tt, new) → IsStep old new
  by_setting_attribute : (n : ℕ) (id v : ℤ) → set_attr_step n id v old ≡ Ok (tt, new) → IsStep old new
  by_unsetting_attribute : (n : ℕ) (id : ℤ) → unset_attr_step n id old ≡ Ok (tt, new) → IsStep old new
  by_sharing_attributes : (n from : ℕ) → same_attrs_step n from old ≡ Ok (tt, new) → IsStep old new
  by_setting_current : (id v : ℤ) → set_current_step id v old ≡ Ok (tt, new) → IsStep old new
  by_unsetting_current : (id : ℤ) → unset_current_step id old ≡ Ok (tt, new) → IsStep old new
  by_wearing_current : (n : ℕ) → wear_current_step n old ≡ Ok (tt, new) → IsStep old new

abbrev pub AreSteps : Heap → List Heap → Type 0
AreSteps first [] = Unit {0}
AreSteps first (next ∷ rest) = IsStep first next × AreSteps next rest
