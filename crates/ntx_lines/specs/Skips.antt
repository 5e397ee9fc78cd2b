-- The glue at both sides of a line ("TeX: The Program", sections 881, 886 and 887). What shrinks of it shrinks finitely.
--     finite spec                 this glue with finite shrink
--     with_rightskip s line       the ends of a line with rightskip at its end
--     with_leftskip s head        the head of a line with leftskip in front, unless all five numbers of leftskip are 0
use Rattle.std.specs.Prelude.{ℕ, pos, nat_eq, Bool, ◌&&◌, if◌then◌else◌, Option, Some, Ok}
use Rattle.std.specs.Ordering.{int_eq}
use Rattle.ntx_nodes.specs.Heap.{Heap}
use Rattle.ntx_nodes.specs.declared.trouble.Trouble.{Trouble}
use Rattle.ntx_item.specs.Settings.{Settings}
use Rattle.ntx_item.specs.declared.glue.GlueSpec.{GlueSpec}
use Rattle.ntx_num.specs.Trace.{Trace, stays, trace_and_then}
use Rattle.ntx_lines.specs.declared.ends.Ends.{Ends}
use Rattle.ntx_lines.specs.Ends.{with_last}
use Rattle.ntx_lines.specs.Making.{glue_fields, made_before, made_at_end}

-- subtypes of glue
abbrev pub leftskip_subtype : ℕ
leftskip_subtype = 8

abbrev pub rightskip_subtype : ℕ
rightskip_subtype = 9

abbrev pub finite : GlueSpec → GlueSpec
finite spec = record spec { shrink_order = 0 }

abbrev pub is_zero_glue : GlueSpec → Bool
is_zero_glue spec =
    int_eq spec.width (pos 0) && int_eq spec.stretch (pos 0) && nat_eq spec.stretch_order 0 && int_eq spec.shrink (pos 0) && nat_eq spec.shrink_order 0

abbrev pub with_rightskip : Settings → Ends → Heap → Trace Heap Ends Trouble
with_rightskip s line heap = trace_and_then (made_at_end (glue_fields rightskip_subtype (finite s.rightskip)) line.last heap) (λ n new. stays new (Ok (with_last line n)))

abbrev pub with_leftskip : Settings → Option ℕ → Heap → Trace Heap (Option ℕ) Trouble
with_leftskip s head heap =
    if is_zero_glue s.leftskip then stays heap (Ok head)
    else trace_and_then (made_before (glue_fields leftskip_subtype (finite s.leftskip)) head heap) (λ n new. stays new (Ok (Some n)))
