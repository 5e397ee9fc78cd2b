-- The vertical list of a paragraph ("TeX: The Program", sections 679, 888 and 890): the lines so far, and what stands between two of them.
--     nothing_above                      the list before the first line
--     with_box s above n heap            a line more at the end, after interline glue if it is not the first
--     line_penalty s first last hyphenated    the penalty after a line
--     with_penalty p last heap           a penalty at the end, unless it is 0
use Rattle.std.specs.Prelude.{ℕ, ℤ, pos, ◌+ℤ◌, ◌-ℤ◌, int_lt, Bool, if◌then◌else◌, Option, None, Some, Result, Ok, Err}
use Rattle.std.specs.Ordering.{int_eq}
use Rattle.ntx_num.specs.Dimension.{is_dimension}
use Rattle.ntx_num.specs.Answer.{result_map}
use Rattle.ntx_nodes.specs.Heap.{Heap}
use Rattle.ntx_nodes.specs.declared.fields.Fields.{Fields}
use Rattle.ntx_nodes.specs.declared.trouble.Trouble.{Trouble}
use Rattle.ntx_nodes.specs.declared.trouble.Trouble.TheVariants.{Dimension}
use Rattle.ntx_item.specs.Settings.{Settings}
use Rattle.ntx_item.specs.declared.glue.GlueSpec.{GlueSpec}
use Rattle.ntx_pack.specs.Vertical.{interline_glue}
use Rattle.ntx_lines.specs.declared.above.Above.{Above}
use Rattle.ntx_num.specs.Trace.{Trace, stays, trace_and_then}
use Rattle.ntx_lines.specs.Making.{glue_fields, penalty_fields, follows, made_before, made_at_end}
use Rattle.ntx_lines.specs.LineBox.{box_fields_at}

-- no lines
abbrev pub nothing_above : Above
nothing_above = record { first = None; last = None; depth = pos 0 }

-- ---- interline glue

-- subtypes of glue: lineskip, where the lines would be too close, and else baselineskip
abbrev pub interline_subtype : Settings → ℤ → ℤ → ℕ
interline_subtype s depth height = if int_lt ((s.baselineskip.width -ℤ depth) -ℤ height) s.lineskiplimit then 1 else 2

-- glue that a node takes
abbrev pub checked_glue : GlueSpec → Result GlueSpec Trouble
checked_glue spec = if is_dimension spec.width then Ok spec else Err Dimension

-- the fields of the glue between a box of this depth and one of this height below it
abbrev pub interline_fields : Settings → ℤ → ℤ → Result Fields Trouble
interline_fields s depth height = result_map (glue_fields (interline_subtype s depth height)) (checked_glue (interline_glue s depth height))

-- Glue between the last node of the list and a box of this height after it.
abbrev pub interline : Settings → ℤ → ℤ → ℕ → ℕ → Heap → Trace Heap (Unit {0}) Trouble
interline s depth height last n heap =
    trace_and_then (stays heap (interline_fields s depth height)) (λ fields h.
    trace_and_then (made_before fields (Some n) h) (λ glue new. follows (Some last) (Some glue) new))

abbrev pub interline_after : Settings → ℤ → ℤ → Option ℕ → ℕ → Heap → Trace Heap (Unit {0}) Trouble
interline_after s depth height None n heap = stays heap (Ok tt)
interline_after s depth height (Some last) n heap = interline s depth height last n heap

-- ---- a line more

abbrev pub first_of : Option ℕ → ℕ → Option ℕ
first_of None n = Some n
first_of (Some first) n = Some first

abbrev pub above_with : Above → ℕ → ℤ → Above
above_with above n depth = record { first = first_of above.first n; last = Some n; depth = depth }

-- The box is in the list before the glue in front of it is made.
abbrev pub with_box : Settings → Above → ℕ → Heap → Trace Heap Above Trouble
with_box s above n heap =
    trace_and_then (stays heap (box_fields_at n heap)) (λ b h.
    trace_and_then (follows above.last (Some n) h) (λ _ linked.
    trace_and_then (interline_after s above.depth b.height above.last n linked) (λ _ new. stays new (Ok (above_with above n b.depth)))))

-- ---- penalties

abbrev pub only_if : Bool → ℤ → ℤ
only_if test p = if test then p else pos 0

-- after a line, which may be the first one, be followed by the last one alone, and end with a discretionary
abbrev pub line_penalty : Settings → Bool → Bool → Bool → ℤ
line_penalty s is_first is_before_last is_hyphenated =
    ((s.interlinepenalty +ℤ only_if is_first s.clubpenalty) +ℤ only_if is_before_last s.widowpenalty) +ℤ only_if is_hyphenated s.brokenpenalty

abbrev pub with_penalty : ℤ → Above → Heap → Trace Heap Above Trouble
with_penalty p above heap =
    if int_eq p (pos 0) then stays heap (Ok above)
    else trace_and_then (made_at_end (penalty_fields p) above.last heap) (λ n new. stays new (Ok (record above { last = Some n })))
