-- The first state of each pass, which is the one before any step.
use Rattle.std.proofs.Common.{ℕ, List, [], ◌∷◌, Option, None, Some, Ok, true, false, refl}
use Rattle.std.specs.Prelude.{Bool, Result}
use Rattle.ntx_num.specs.Trace.{Trace, stays, stepped, trace_and_then}
use Rattle.ntx_num.proofs.Traces.{Begins, begins_stays, begins_step, begins_then, begins_each}
use Rattle.ntx_nodes.specs.Heap.{Heap}
use Rattle.ntx_nodes.specs.Steps.{at, set_step, free_one_step}
use Rattle.ntx_nodes.specs.declared.contents.DiscFields.{DiscFields}
use Rattle.ntx_nodes.specs.declared.field.Field.{Field}
use Rattle.ntx_nodes.specs.declared.field.Field.TheVariants.{Next}
use Rattle.ntx_nodes.specs.declared.field.FieldValue.{FieldValue}
use Rattle.ntx_nodes.specs.declared.field.FieldValue.TheVariants.{Link}
use Rattle.ntx_nodes.specs.declared.fields.Contents.{Contents}
use Rattle.ntx_nodes.specs.declared.fields.Contents.TheVariants as contents
use Rattle.ntx_nodes.specs.declared.fields.Fields.{Fields}
use Rattle.ntx_nodes.specs.declared.trouble.Trouble.{Trouble}
use Rattle.ntx_item.specs.Settings.{Settings}
use Rattle.ntx_lists.specs.Trees.{flush_list_step}
use Rattle.ntx_lines.specs.declared.ends.Ends.{Ends}
use Rattle.ntx_lines.specs.declared.line_end.Ended.{Ended}
use Rattle.ntx_lines.specs.Ends.{with_last}
use Rattle.ntx_lines.specs.Making.{set, sets, follows, made, made_before, made_at_end}
use Rattle.ntx_lines.specs.LineEnd.{rightskip_values, kern_values, nothing_after, whole_line, ends_with, ended_by_disc, replaced, ends_found, ends_at_disc, ends_at, ended, freed, discards}
use Rattle.ntx_lines.proofs.Endings.{begins_made}

-- ---- steps
pub begins_set : (n : ℕ) (value : Field × FieldValue) (heap : Heap) → Begins (set n value heap) heap
begins_set n value heap = begins_step (set_step n value.0 value.1 heap) heap

pub begins_sets : (n : ℕ) (values : List (Field × FieldValue)) (heap : Heap) → Begins (sets n values heap) heap
begins_sets n values heap = begins_each (set n) values heap (begins_set n)

pub begins_follows : (last to : Option ℕ) (heap : Heap) → Begins (follows last to heap) heap
begins_follows None to heap = begins_stays heap (Ok tt)
begins_follows (Some n) to heap = begins_set n (Next, Link to) heap

-- a node, after it is made
abbrev pub leading : Option ℕ → ℕ → Heap → Trace Heap ℕ Trouble
leading to n heap = trace_and_then (follows (Some n) to heap) (λ _ linked. stays linked (Ok n))

abbrev pub led_to : Option ℕ → ℕ → Heap → Trace Heap ℕ Trouble
led_to last n heap = trace_and_then (follows last (Some n) heap) (λ _ linked. stays linked (Ok n))

-- a value at the end
pub begins_given : {S B E : Type 0} (b : B) (heap : S) → Begins {E = E} (stays heap (Ok b)) heap
begins_given b heap = begins_stays heap (Ok b)

pub begins_leading : (to : Option ℕ) (n : ℕ) (heap : Heap) → Begins (leading to n heap) heap
begins_leading to n heap = begins_then (follows (Some n) to heap) heap (λ _ linked. stays linked (Ok n)) (λ _ linked. begins_given n linked) (begins_follows (Some n) to heap)

pub begins_led_to : (last : Option ℕ) (n : ℕ) (heap : Heap) → Begins (led_to last n heap) heap
begins_led_to last n heap = begins_then (follows last (Some n) heap) heap (λ _ linked. stays linked (Ok n)) (λ _ linked. begins_given n linked) (begins_follows last (Some n) heap)

pub begins_before : (fields : Fields) (to : Option ℕ) (heap : Heap) → Begins (made_before fields to heap) heap
begins_before fields to heap = begins_then (made fields heap) heap (leading to) (begins_leading to) (begins_made fields heap)

pub begins_at_end : (fields : Fields) (last : Option ℕ) (heap : Heap) → Begins (made_at_end fields last heap) heap
begins_at_end fields last heap = begins_then (made fields heap) heap (led_to last) (begins_led_to last) (begins_made fields heap)

-- ---- the end of a line
abbrev pub wholly : Ends → ℕ → Bool → Unit {0} → Heap → Trace Heap Ended Trouble
wholly body n has_rightskip u new = stays new (Ok (whole_line (with_last body n) has_rightskip))

pub begins_with : (body : Ends) (n : ℕ) (has_rightskip : Bool) (values : List (Field × FieldValue)) (heap : Heap) → Begins (ends_with body n has_rightskip values heap) heap
begins_with body n has_rightskip values heap =
    begins_then (sets n values heap) heap (wholly body n has_rightskip) (λ _ new. begins_given (whole_line (with_last body n) has_rightskip) new) (begins_sets n values heap)

-- a discretionary, after the list before it is parted, after its list is flushed, and after the next line is joined
abbrev pub freeing : ℕ → Unit {0} → Heap → Trace Heap (Unit {0}) Trouble
freeing n u heap = stepped (free_one_step n heap) heap

abbrev pub joining : ℕ → Option ℕ → Option ℕ → Unit {0} → Heap → Trace Heap (Unit {0}) Trouble
joining n last_of_post after u heap = trace_and_then (follows last_of_post after heap) (freeing n)

abbrev pub flushing : ℕ → DiscFields → Option ℕ → Option ℕ → Unit {0} → Heap → Trace Heap (Unit {0}) Trouble
flushing n d last_of_post after u heap = trace_and_then (stepped (flush_list_step d.replace heap) heap) (joining n last_of_post after)

pub begins_freeing : (n : ℕ) (u : Unit {0}) (heap : Heap) → Begins (freeing n u heap) heap
begins_freeing n u heap = begins_step (free_one_step n heap) heap

pub begins_joining : (n : ℕ) (last_of_post after : Option ℕ) (u : Unit {0}) (heap : Heap) → Begins (joining n last_of_post after u heap) heap
begins_joining n last_of_post after u heap = begins_then (follows last_of_post after heap) heap (freeing n) (begins_freeing n) (begins_follows last_of_post after heap)

pub begins_flushing : (n : ℕ) (d : DiscFields) (last_of_post after : Option ℕ) (u : Unit {0}) (heap : Heap) → Begins (flushing n d last_of_post after u heap) heap
begins_flushing n d last_of_post after u heap =
    begins_then (stepped (flush_list_step d.replace heap) heap) heap (joining n last_of_post after) (begins_joining n last_of_post after) (begins_step (flush_list_step d.replace heap) heap)

pub begins_replaced : (before : Option ℕ) (n : ℕ) (d : DiscFields) (last_of_post after : Option ℕ) (heap : Heap) → Begins (replaced before n d last_of_post after heap) heap
begins_replaced before n d last_of_post after heap =
    begins_then (follows before d.pre heap) heap (flushing n d last_of_post after) (begins_flushing n d last_of_post after) (begins_follows before d.pre heap)

abbrev pub broken : Ends → Ends → Ends → Unit {0} → Heap → Trace Heap Ended Trouble
broken body pre post u new = stays new (Ok (ended_by_disc body pre post))

abbrev pub replacing : Ends → ℕ → DiscFields → Option ℕ → Ends → Ends → Heap → Trace Heap Ended Trouble
replacing body n d after pre post heap = trace_and_then (replaced body.last n d post.last after heap) (broken body pre post)

abbrev pub posting : Ends → ℕ → DiscFields → Option ℕ → Ends → Heap → Trace Heap Ended Trouble
posting body n d after pre heap = trace_and_then (ends_found d.post heap) (replacing body n d after pre)

pub begins_found : (to : Option ℕ) (heap : Heap) → Begins (ends_found to heap) heap
begins_found to heap = record { more = []; is = refl }

pub begins_replacing : (body : Ends) (n : ℕ) (d : DiscFields) (after : Option ℕ) (pre post : Ends) (heap : Heap) → Begins (replacing body n d after pre post heap) heap
begins_replacing body n d after pre post heap =
    begins_then (replaced body.last n d post.last after heap) heap (broken body pre post) (λ _ new. begins_given (ended_by_disc body pre post) new) (begins_replaced body.last n d post.last after heap)

pub begins_posting : (body : Ends) (n : ℕ) (d : DiscFields) (after : Option ℕ) (pre : Ends) (heap : Heap) → Begins (posting body n d after pre heap) heap
begins_posting body n d after pre heap = begins_then (ends_found d.post heap) heap (replacing body n d after pre) (begins_replacing body n d after pre) (begins_found d.post heap)

pub begins_disc : (body : Ends) (n : ℕ) (d : DiscFields) (after : Option ℕ) (heap : Heap) → Begins (ends_at_disc body n d after heap) heap
begins_disc body n d after heap = begins_then (ends_found d.pre heap) heap (posting body n d after) (begins_posting body n d after) (begins_found d.pre heap)

pub begins_ends_at : (s : Settings) (body : Ends) (n : ℕ) (after : Option ℕ) (c : Contents) (heap : Heap) → Begins (ends_at s body n after c heap) heap
begins_ends_at s body n after (contents.Glue g) heap = begins_with body n true (rightskip_values s) heap
begins_ends_at s body n after (contents.Kern w) heap = begins_with body n false kern_values heap
begins_ends_at s body n after (contents.Disc d) heap = begins_disc body n d after heap
begins_ends_at s body n after (contents.Hlist b) heap = begins_with body n false (nothing_after ∷ []) heap
begins_ends_at s body n after (contents.Vlist b) heap = begins_with body n false (nothing_after ∷ []) heap
begins_ends_at s body n after (contents.Rule r) heap = begins_with body n false (nothing_after ∷ []) heap
begins_ends_at s body n after (contents.Penalty p) heap = begins_with body n false (nothing_after ∷ []) heap
begins_ends_at s body n after (contents.Glyph g) heap = begins_with body n false (nothing_after ∷ []) heap

pub begins_ended : (s : Settings) (body : Ends) (to after : Option ℕ) (heap : Heap) → Begins (ended s body to after heap) heap
begins_ended s body None after heap = begins_given (whole_line body false) heap
begins_ended s body (Some n) after heap =
    let found : Result Contents Trouble = at heap n (λ node. Ok node.fields.contents) in
    begins_then (stays heap found) heap (ends_at s body n after) (begins_ends_at s body n after) (begins_stays heap found)

pub begins_freed : (n : ℕ) (heap : Heap) → Begins (freed n heap) heap
begins_freed n heap = begins_step (free_one_step n heap) heap

pub begins_discards : (names : List ℕ) (heap : Heap) → Begins (discards names heap) heap
begins_discards names heap = begins_each freed names heap begins_freed
