-- The first state of each pass of a whole line, which is the one before any step.
use Rattle.std.proofs.Common.{ℕ, zero, suc, ℤ, pos, List, [], ◌∷◌, Option, None, Some, Ok, true, false}
use Rattle.std.specs.Prelude.{Bool, if◌then◌else◌, Result, nat_eq, length, is_none}
use Rattle.std.specs.Ordering.{int_eq}
use Rattle.ntx_num.specs.Answer.{result_map}
use Rattle.ntx_num.specs.Trace.{Trace, stays, stepped, trace_and_then}
use Rattle.ntx_num.proofs.Traces.{Begins, begins_stays, begins_step, begins_then}
use Rattle.ntx_nodes.specs.Heap.{Heap}
use Rattle.ntx_nodes.specs.Steps.{wear_current_step}
use Rattle.ntx_nodes.specs.declared.contents.BoxFields.{BoxFields}
use Rattle.ntx_nodes.specs.declared.field.Field.TheVariants.{Subtype}
use Rattle.ntx_nodes.specs.declared.field.FieldValue.TheVariants.{Number}
use Rattle.ntx_nodes.specs.declared.trouble.Trouble.{Trouble}
use Rattle.ntx_tfm.specs.Font.{FontTables}
use Rattle.ntx_item.specs.Settings.{Settings}
use Rattle.ntx_nodes.specs.declared.fields.Fields.{Fields}
use Rattle.ntx_item.specs.declared.pack_to.PackTo.TheVariants.{Exactly}
use Rattle.ntx_pack.specs.Pack.{hpack_step}
use Rattle.ntx_lines.specs.declared.above.Above.{Above}
use Rattle.ntx_lines.specs.declared.ends.Ends.{Ends}
use Rattle.ntx_lines.specs.declared.line_end.Ended.{Ended}
use Rattle.ntx_lines.specs.Ends.{with_last, ends_of, joined}
use Rattle.ntx_lines.specs.Making.{set, follows, glue_fields, penalty_fields, made_before, made_at_end}
use Rattle.ntx_lines.specs.LineEnd.{ended, discards}
use Rattle.ntx_lines.specs.Skips.{leftskip_subtype, rightskip_subtype, finite, is_zero_glue, with_rightskip, with_leftskip}
use Rattle.ntx_lines.specs.LineBox.{line_subtype, box_fields_at, line_box}
use Rattle.ntx_lines.specs.Above.{interline_fields, interline_after, above_with, with_box, line_penalty, with_penalty}
use Rattle.ntx_lines.specs.Parts.{Part}
use Rattle.ntx_lines.specs.Lines.{with_right, boxed, penalized, line_made, lines_made}
use Rattle.ntx_lines.proofs.Begins.{begins_given, begins_set, begins_follows, begins_before, begins_at_end, begins_ended, begins_discards}

-- ---- the sides of a line
abbrev pub righted : Ends → ℕ → Heap → Trace Heap Ends Trouble
righted line n new = stays new (Ok (with_last line n))

abbrev pub lefted : ℕ → Heap → Trace Heap (Option ℕ) Trouble
lefted n new = stays new (Ok (Some n))

pub begins_rightskip : (s : Settings) (line : Ends) (heap : Heap) → Begins (with_rightskip s line heap) heap
begins_rightskip s line heap =
    let fields = glue_fields rightskip_subtype (finite s.rightskip) in
    begins_then (made_at_end fields line.last heap) heap (righted line) (λ n new. begins_given (with_last line n) new) (begins_at_end fields line.last heap)

pub begins_leftskip : (s : Settings) (head : Option ℕ) (heap : Heap) → Begins (with_leftskip s head heap) heap
begins_leftskip s head heap =
    let fields = glue_fields leftskip_subtype (finite s.leftskip) in
    elim (is_zero_glue s.leftskip) as (λ b. Begins (if b then stays heap (Ok head) else trace_and_then (made_before fields head heap) lefted) heap) [
      | true ↦ begins_given head heap
      | false ↦ begins_then (made_before fields head heap) heap lefted (λ n new. begins_given (Some n) new) (begins_before fields head heap)
    ]

-- ---- the box of a line
abbrev pub worn : ℕ → Unit {0} → Heap → Trace Heap ℕ Trouble
worn n u named = stepped (result_map (λ done. (n, done.1)) (wear_current_step n named)) named

abbrev pub naming : ℕ → Heap → Trace Heap ℕ Trouble
naming n packed = trace_and_then (set n (Subtype, Number (pos line_subtype)) packed) (worn n)

pub begins_worn : (n : ℕ) (u : Unit {0}) (heap : Heap) → Begins (worn n u heap) heap
begins_worn n u heap = begins_step (result_map (λ done. (n, done.1)) (wear_current_step n heap)) heap

pub begins_naming : (n : ℕ) (heap : Heap) → Begins (naming n heap) heap
begins_naming n heap =
    begins_then (set n (Subtype, Number (pos line_subtype)) heap) heap (worn n) (begins_worn n) (begins_set n (Subtype, Number (pos line_subtype)) heap)

pub begins_line_box : (fonts : List FontTables) (s : Settings) (head : Option ℕ) (heap : Heap) → Begins (line_box fonts s head heap) heap
begins_line_box fonts s head heap =
    let step : Result (ℕ × Heap) Trouble = result_map (λ made. (made.0.0, made.1)) (hpack_step fonts head (Exactly s.hsize) heap) in
    begins_then (stepped step heap) heap naming begins_naming (begins_step step heap)

-- ---- the vertical list
abbrev pub gluing : ℕ → ℕ → Heap → Trace Heap (Unit {0}) Trouble
gluing last glue new = follows (Some last) (Some glue) new

abbrev pub spaced : ℕ → ℕ → Fields → Heap → Trace Heap (Unit {0}) Trouble
spaced last n fields heap = trace_and_then (made_before fields (Some n) heap) (gluing last)

pub begins_spaced : (last n : ℕ) (fields : Fields) (heap : Heap) → Begins (spaced last n fields heap) heap
begins_spaced last n fields heap = begins_then (made_before fields (Some n) heap) heap (gluing last) (λ glue new. begins_follows (Some last) (Some glue) new) (begins_before fields (Some n) heap)

pub begins_interline_after : (s : Settings) (depth height : ℤ) (last : Option ℕ) (n : ℕ) (heap : Heap) → Begins (interline_after s depth height last n heap) heap
begins_interline_after s depth height None n heap = begins_given tt heap
begins_interline_after s depth height (Some last) n heap =
    let fields = interline_fields s depth height in begins_then (stays heap fields) heap (spaced last n) (begins_spaced last n) (begins_stays heap fields)

abbrev pub stacked : Above → ℕ → BoxFields → Unit {0} → Heap → Trace Heap Above Trouble
stacked above n b u new = stays new (Ok (above_with above n b.depth))

abbrev pub spacing : Settings → Above → ℕ → BoxFields → Unit {0} → Heap → Trace Heap Above Trouble
spacing s above n b u linked = trace_and_then (interline_after s above.depth b.height above.last n linked) (stacked above n b)

abbrev pub linking : Settings → Above → ℕ → BoxFields → Heap → Trace Heap Above Trouble
linking s above n b heap = trace_and_then (follows above.last (Some n) heap) (spacing s above n b)

pub begins_spacing : (s : Settings) (above : Above) (n : ℕ) (b : BoxFields) (u : Unit {0}) (heap : Heap) → Begins (spacing s above n b u heap) heap
begins_spacing s above n b u heap =
    begins_then (interline_after s above.depth b.height above.last n heap) heap (stacked above n b) (λ _ new. begins_given (above_with above n b.depth) new) (begins_interline_after s above.depth b.height above.last n heap)

pub begins_linking : (s : Settings) (above : Above) (n : ℕ) (b : BoxFields) (heap : Heap) → Begins (linking s above n b heap) heap
begins_linking s above n b heap = begins_then (follows above.last (Some n) heap) heap (spacing s above n b) (begins_spacing s above n b) (begins_follows above.last (Some n) heap)

pub begins_with_box : (s : Settings) (above : Above) (n : ℕ) (heap : Heap) → Begins (with_box s above n heap) heap
begins_with_box s above n heap = begins_then (stays heap (box_fields_at n heap)) heap (linking s above n) (begins_linking s above n) (begins_stays heap (box_fields_at n heap))

abbrev pub at_end : Above → ℕ → Heap → Trace Heap Above Trouble
at_end above n new = stays new (Ok (record above { last = Some n }))

pub begins_with_penalty : (p : ℤ) (above : Above) (heap : Heap) → Begins (with_penalty p above heap) heap
begins_with_penalty p above heap =
    elim (int_eq p (pos 0)) as (λ b. Begins (if b then stays heap (Ok above) else trace_and_then (made_at_end (penalty_fields p) above.last heap) (at_end above)) heap) [
      | true ↦ begins_given above heap
      | false ↦ begins_then (made_at_end (penalty_fields p) above.last heap) heap (at_end above) (λ n new. begins_given (record above { last = Some n }) new) (begins_at_end (penalty_fields p) above.last heap)
    ]

-- ---- one line
pub begins_with_right : (s : Settings) (line : Ended) (heap : Heap) → Begins (with_right s line heap) heap
begins_with_right s line heap =
    elim line.has_rightskip as (λ b. Begins (if b then stays heap (Ok line.line) else with_rightskip s line.line heap) heap) [
      | true ↦ begins_given line.line heap
      | false ↦ begins_rightskip s line.line heap
    ]

abbrev pub putting : Settings → Above → ℕ → Heap → Trace Heap Above Trouble
putting s above n packed = with_box s above n packed

abbrev pub packing : List FontTables → Settings → Above → Option ℕ → Heap → Trace Heap Above Trouble
packing fonts s above first skipped = trace_and_then (line_box fonts s first skipped) (putting s above)

pub begins_packing : (fonts : List FontTables) (s : Settings) (above : Above) (first : Option ℕ) (heap : Heap) → Begins (packing fonts s above first heap) heap
begins_packing fonts s above first heap = begins_then (line_box fonts s first heap) heap (putting s above) (begins_with_box s above) (begins_line_box fonts s first heap)

pub begins_boxed : (fonts : List FontTables) (s : Settings) (above : Above) (head : Option ℕ) (heap : Heap) → Begins (boxed fonts s above head heap) heap
begins_boxed fonts s above head heap = begins_then (with_leftskip s head heap) heap (packing fonts s above) (begins_packing fonts s above) (begins_leftskip s head heap)

pub begins_penalized : (s : Settings) (is_first is_hyphenated : Bool) (later : ℕ) (above : Above) (heap : Heap) → Begins (penalized s is_first is_hyphenated later above heap) heap
begins_penalized s is_first is_hyphenated zero above heap = begins_given above heap
begins_penalized s is_first is_hyphenated (suc others) above heap = begins_with_penalty (line_penalty s is_first (nat_eq others 0) is_hyphenated) above heap

-- a line, after its end is found, after it has rightskip, after what follows is discarded, and after it is in its box
abbrev pub closing : Ended → Above → Heap → Trace Heap (Above × Ends) Trouble
closing line longest new = stays new (Ok (longest, line.front))

abbrev pub penalizing : Settings → Above → Ended → ℕ → Above → Heap → Trace Heap (Above × Ends) Trouble
penalizing s above line later longer stacked = trace_and_then (penalized s (is_none above.first) line.is_hyphenated later longer stacked) (closing line)

abbrev pub boxing : List FontTables → Settings → Above → Ended → Ends → ℕ → Unit {0} → Heap → Trace Heap (Above × Ends) Trouble
boxing fonts s above line whole later u rest = trace_and_then (boxed fonts s above whole.first rest) (penalizing s above line later)

abbrev pub discarding : List FontTables → Settings → Above → Part → Ended → ℕ → Ends → Heap → Trace Heap (Above × Ends) Trouble
discarding fonts s above part line later whole righted = trace_and_then (discards part.discarded righted) (boxing fonts s above line whole later)

abbrev pub righting : List FontTables → Settings → Above → Part → ℕ → Ended → Heap → Trace Heap (Above × Ends) Trouble
righting fonts s above part later line parted = trace_and_then (with_right s line parted) (discarding fonts s above part line later)

pub begins_penalizing : (s : Settings) (above : Above) (line : Ended) (later : ℕ) (longer : Above) (heap : Heap) → Begins (penalizing s above line later longer heap) heap
begins_penalizing s above line later longer heap =
    begins_then (penalized s (is_none above.first) line.is_hyphenated later longer heap) heap (closing line) (λ longest new. begins_given (longest, line.front) new)
    (begins_penalized s (is_none above.first) line.is_hyphenated later longer heap)

pub begins_boxing : (fonts : List FontTables) (s : Settings) (above : Above) (line : Ended) (whole : Ends) (later : ℕ) (u : Unit {0}) (heap : Heap) → Begins (boxing fonts s above line whole later u heap) heap
begins_boxing fonts s above line whole later u heap =
    begins_then (boxed fonts s above whole.first heap) heap (penalizing s above line later) (begins_penalizing s above line later) (begins_boxed fonts s above whole.first heap)

pub begins_discarding : (fonts : List FontTables) (s : Settings) (above : Above) (part : Part) (line : Ended) (later : ℕ) (whole : Ends) (heap : Heap) → Begins (discarding fonts s above part line later whole heap) heap
begins_discarding fonts s above part line later whole heap =
    begins_then (discards part.discarded heap) heap (boxing fonts s above line whole later) (begins_boxing fonts s above line whole later) (begins_discards part.discarded heap)

pub begins_righting : (fonts : List FontTables) (s : Settings) (above : Above) (part : Part) (later : ℕ) (line : Ended) (heap : Heap) → Begins (righting fonts s above part later line heap) heap
begins_righting fonts s above part later line heap =
    begins_then (with_right s line heap) heap (discarding fonts s above part line later) (begins_discarding fonts s above part line later) (begins_with_right s line heap)

pub begins_line : (fonts : List FontTables) (s : Settings) (above : Above) (front : Ends) (part : Part) (later : ℕ) (heap : Heap) → Begins (line_made fonts s above front part later heap) heap
begins_line fonts s above front part later heap =
    let body = joined front (ends_of part.body) in
    begins_then (ended s body part.at part.after heap) heap (righting fonts s above part later) (begins_righting fonts s above part later) (begins_ended s body part.at part.after heap)

-- ---- all lines
abbrev pub going_on : List FontTables → Settings → List Part → Above × Ends → Heap → Trace Heap Above Trouble
going_on fonts s later done new = lines_made fonts s done.0 done.1 later new

pub begins_lines : (fonts : List FontTables) (s : Settings) (above : Above) (front : Ends) (parts : List Part) (heap : Heap) → Begins (lines_made fonts s above front parts heap) heap
begins_lines fonts s above front [] heap = begins_given above heap
begins_lines fonts s above front (part ∷ later) heap =
    begins_then (line_made fonts s above front part (length later) heap) heap (going_on fonts s later) (λ done new. begins_lines fonts s done.0 done.1 later new) (begins_line fonts s above front part (length later) heap)
