-- Nodes made with all their fields, and fields written that take their values, as steps of a heap.
--     write_step               values written into fields of a node, one after another
--     make_filled_step, make_current_step, make_like_step      a made node with these fields, and no attributes, the current ones, or those of a node
--     StepsInTwo               a call of two steps, where memory may run out between them
use Rattle.std.specs.Prelude.{◌≡◌, ◌⊎◌, ℕ, ℤ, List, [], ◌∷◌, true, Option, Some, Result, Ok, Err}
use Rattle.std.specs.FinMap as map
use Rattle.ntx_num.specs.Answer.{result_and_then}
use Rattle.ntx_num.specs.declared.answer.Fail.{Fail}
use Rattle.ntx_num.specs.declared.answer.Fail.TheVariants.{NoMemory, Is}
use Rattle.ntx_nodes.specs.Fields.{field_of, kind_of}
use Rattle.ntx_nodes.specs.Heap.{Heap, IsInRange, is_live}
use Rattle.ntx_nodes.specs.Steps.{at, making, set_step}
use Rattle.ntx_nodes.specs.declared.field.Field.{Field}
use Rattle.ntx_nodes.specs.declared.field.FieldValue.{FieldValue}
use Rattle.ntx_nodes.specs.declared.field.FieldValue.TheVariants.{Number, Link}
use Rattle.ntx_nodes.specs.declared.fields.Fields.{Fields}
use Rattle.ntx_nodes.specs.declared.trouble.Trouble.{Trouble}

abbrev pub write_step : ℕ → List (Field × FieldValue) → Heap → Result (Unit {0} × Heap) Trouble
write_step n [] heap = Ok (tt, heap)
write_step n (w ∷ ws) heap = result_and_then (set_step n w.0 w.1 heap) (λ done. write_step n ws done.1)

-- The fields that a made node may have: each number is in its field's range, and each link leads to a live node.
pub record AreMakable (heap : Heap) (fields : Fields) : Type 0 where
  pub numbers : (f : Field) (x : ℤ) → field_of fields f ≡ Ok (Number x) → IsInRange (kind_of fields.contents) f x
  pub links : (f : Field) (m : ℕ) → field_of fields f ≡ Ok (Link (Some m)) → is_live heap m ≡ true

-- a node with these fields and no attributes
abbrev pub make_filled_step : Fields → Heap → Result (ℕ × Heap) Trouble
make_filled_step fields heap = making (record { fields = fields; attributes = map.empty }) heap

-- or with the current attributes,
abbrev pub make_current_step : Fields → Heap → Result (ℕ × Heap) Trouble
make_current_step fields heap = making (record { fields = fields; attributes = heap.current }) heap

-- or with those of another node, which has to be live
abbrev pub make_like_step : Fields → ℕ → Heap → Result (ℕ × Heap) Trouble
make_like_step fields from heap = at heap from (λ other. making (record { fields = fields; attributes = other.attributes }) heap)

-- The call gives what its whole step gives, or makes its refusal and leaves the heap. Where memory ran out, the heap is as it was, or as its first
-- step leaves it.
abbrev pub StepsInTwo : Result ℕ (Fail Trouble) → Heap → Heap → Result (ℕ × Heap) Trouble → Result (ℕ × Heap) Trouble → Type 0
StepsInTwo (Ok n) old new first whole = whole ≡ Ok (n, new)
StepsInTwo (Err (Is why)) old new first whole = (whole ≡ Err why) × (new ≡ old)
StepsInTwo (Err NoMemory) old new first whole = (new ≡ old) ⊎ ((n : ℕ) × (first ≡ Ok (n, new)))
