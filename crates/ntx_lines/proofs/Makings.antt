-- How nodes are made in their places.
use Rattle.std.proofs.Common.{ℕ, Option, Some, Ok, Err, refl, arith}
use Rattle.std.specs.Prelude.{Result}
use Rattle.ntx_num.specs.Trace.{stays, EndsAs}
use Rattle.ntx_num.specs.declared.answer.Fail.{Fail}
use Rattle.ntx_num.proofs.Traces.{ends_later, ends_there}
use Rattle.ntx_nodes.specs.Heap.{Heap}
use Rattle.ntx_nodes.specs.Writing.{AreMakable, make_filled_step, make_current_step, StepsInTwo}
use Rattle.ntx_nodes.specs.declared.fields.Fields.{Fields}
use Rattle.ntx_nodes.specs.declared.trouble.Trouble.{Trouble}
use Rattle.ntx_nodes.proofs.Ranges.{makable_fields}
use Rattle.ntx_num.specs.Dimension.{IsWithin, max_penalty}
use Rattle.std.specs.Prelude.{ℤ, ◌≤◌}
use Rattle.ntx_item.specs.Parameters.{IsGlueInRange}
use Rattle.ntx_item.specs.declared.glue.GlueSpec.{GlueSpec}
use Rattle.ntx_lines.specs.Making.{follows, glue_fields, penalty_fields, made, made_before, made_at_end}
use Rattle.ntx_lines.proofs.Endings.{current_ends}
use Rattle.ntx_lines.proofs.Begins.{leading, led_to, begins_leading, begins_led_to, begins_given}

abbrev pub IsMade : Result ℕ (Fail Trouble) → Fields → Heap → Heap → Type 0
IsMade r fields old new = StepsInTwo r old new (make_filled_step fields old) (make_current_step fields old)

-- ---- in front of a list
pub before_refused : (fields : Fields) (to : Option ℕ) (old new : Heap) (e : Fail Trouble) → IsMade (Err e) fields old new → EndsAs {A = ℕ} (Err e) new (made_before fields to old)
before_refused fields to old new e m = ends_there (made fields old) new (leading to) e (begins_leading to) (current_ends (Err e) old new fields m)

pub before_stopped : (fields : Fields) (to : Option ℕ) (old mid new : Heap) (n : ℕ) (e : Fail Trouble) → IsMade (Ok n) fields old mid → EndsAs {A = Unit {0}} (Err e) new (follows (Some n) to mid) → EndsAs {A = ℕ} (Err e) new (made_before fields to old)
before_stopped fields to old mid new n e m f =
    ends_later (made fields old) n mid new (leading to) (Err e) (current_ends (Ok n) old mid fields m)
    (ends_there (follows (Some n) to mid) new (λ _ linked. stays linked (Ok n)) e (λ _ linked. begins_given n linked) f)

pub before_done : (fields : Fields) (to : Option ℕ) (old mid new : Heap) (n : ℕ) (u : Unit {0}) → IsMade (Ok n) fields old mid → EndsAs (Ok u) new (follows (Some n) to mid) → EndsAs (Ok n) new (made_before fields to old)
before_done fields to old mid new n u m f =
    ends_later (made fields old) n mid new (leading to) (Ok n) (current_ends (Ok n) old mid fields m)
    (ends_later (follows (Some n) to mid) u new new (λ _ linked. stays linked (Ok n)) (Ok n) f (refl, refl))

-- ---- at the end of a list
pub end_refused : (fields : Fields) (last : Option ℕ) (old new : Heap) (e : Fail Trouble) → IsMade (Err e) fields old new → EndsAs {A = ℕ} (Err e) new (made_at_end fields last old)
end_refused fields last old new e m = ends_there (made fields old) new (led_to last) e (begins_led_to last) (current_ends (Err e) old new fields m)

pub end_stopped : (fields : Fields) (last : Option ℕ) (old mid new : Heap) (n : ℕ) (e : Fail Trouble) → IsMade (Ok n) fields old mid → EndsAs {A = Unit {0}} (Err e) new (follows last (Some n) mid) → EndsAs {A = ℕ} (Err e) new (made_at_end fields last old)
end_stopped fields last old mid new n e m f =
    ends_later (made fields old) n mid new (led_to last) (Err e) (current_ends (Ok n) old mid fields m)
    (ends_there (follows last (Some n) mid) new (λ _ linked. stays linked (Ok n)) e (λ _ linked. begins_given n linked) f)

pub end_done : (fields : Fields) (last : Option ℕ) (old mid new : Heap) (n : ℕ) (u : Unit {0}) → IsMade (Ok n) fields old mid → EndsAs (Ok u) new (follows last (Some n) mid) → EndsAs (Ok n) new (made_at_end fields last old)
end_done fields last old mid new n u m f =
    ends_later (made fields old) n mid new (led_to last) (Ok n) (current_ends (Ok n) old mid fields m)
    (ends_later (follows last (Some n) mid) u new new (λ _ linked. stays linked (Ok n)) (Ok n) f (refl, refl))

-- ---- what can be made
pub glue_makable : (heap : Heap) (subtype : ℕ) (spec : GlueSpec) → subtype ≤ 255 → IsGlueInRange spec → AreMakable heap (glue_fields subtype spec)
glue_makable heap subtype spec byte r =
    makable_fields heap (glue_fields subtype spec) (record { subtype = byte; link = λ n e. cc; contents = (r.width, r.stretch, r.stretch_order, r.shrink, r.shrink_order) })

pub penalty_makable : (heap : Heap) (p : ℤ) → IsWithin max_penalty p → AreMakable heap (penalty_fields p)
penalty_makable heap p r = makable_fields heap (penalty_fields p) (record { subtype = omega arith; link = λ n e. cc; contents = r })
