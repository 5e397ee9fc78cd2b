-- Steps from which lines are made.
--     follows last to      a node, if there is one, is followed by another, or by nothing
--     sets n values        values in fields of a node, one after another
--     made fields          a node with these fields and the current attributes
--     made_before, made_at_end      the same, with a node after it or in front of it
--     glue_fields, penalty_fields   fields of glue and of a penalty, with nothing after them
use Rattle.std.specs.Prelude.{ℕ, ℤ, List, Option, None, Some, Ok}
use Rattle.ntx_num.specs.Answer.{result_map}
use Rattle.ntx_nodes.specs.Heap.{Heap}
use Rattle.ntx_nodes.specs.Steps.{set_step, wear_current_step}
use Rattle.ntx_nodes.specs.Writing.{make_filled_step}
use Rattle.ntx_nodes.specs.declared.field.Field.{Field}
use Rattle.ntx_nodes.specs.declared.field.Field.TheVariants.{Next}
use Rattle.ntx_nodes.specs.declared.field.FieldValue.{FieldValue}
use Rattle.ntx_nodes.specs.declared.field.FieldValue.TheVariants.{Link}
use Rattle.ntx_nodes.specs.declared.fields.Contents.TheVariants as contents
use Rattle.ntx_nodes.specs.declared.fields.Fields.{Fields}
use Rattle.ntx_nodes.specs.declared.trouble.Trouble.{Trouble}
use Rattle.ntx_item.specs.declared.glue.GlueSpec.{GlueSpec}
use Rattle.ntx_num.specs.Trace.{Trace, stays, stepped, trace_and_then, each_in_turn}

-- ---- fields
abbrev pub set : ℕ → Field × FieldValue → Heap → Trace Heap (Unit {0}) Trouble
set n value heap = stepped (set_step n value.0 value.1 heap) heap

abbrev pub sets : ℕ → List (Field × FieldValue) → Heap → Trace Heap (Unit {0}) Trouble
sets n values heap = each_in_turn (set n) values heap

abbrev pub follows : Option ℕ → Option ℕ → Heap → Trace Heap (Unit {0}) Trouble
follows None to heap = stays heap (Ok tt)
follows (Some n) to heap = set n (Next, Link to) heap

-- ---- nodes
abbrev pub glue_fields : ℕ → GlueSpec → Fields
glue_fields subtype spec = record {
  subtype = subtype;
  next = None;
  contents = contents.Glue (record { width = spec.width; stretch = spec.stretch; stretch_order = spec.stretch_order; shrink = spec.shrink; shrink_order = spec.shrink_order });
}

abbrev pub penalty_fields : ℤ → Fields
penalty_fields p = record { subtype = 0; next = None; contents = contents.Penalty p }

abbrev pub made : Fields → Heap → Trace Heap ℕ Trouble
made fields heap =
    trace_and_then (stepped (make_filled_step fields heap) heap) (λ n new. stepped (result_map (λ done. (n, done.1)) (wear_current_step n new)) new)

-- in front of a list, or of nothing
abbrev pub made_before : Fields → Option ℕ → Heap → Trace Heap ℕ Trouble
made_before fields to heap =
    trace_and_then (made fields heap) (λ n new. trace_and_then (follows (Some n) to new) (λ _ linked. stays linked (Ok n)))

-- after the last node of a list, or of none
abbrev pub made_at_end : Fields → Option ℕ → Heap → Trace Heap ℕ Trouble
made_at_end fields last heap =
    trace_and_then (made fields heap) (λ n new. trace_and_then (follows last (Some n) new) (λ _ linked. stays linked (Ok n)))
