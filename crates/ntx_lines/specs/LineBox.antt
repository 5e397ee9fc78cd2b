-- The box of a line ("TeX: The Program", sections 880 and 889).
--     box_fields_at n heap            the fields of a box
--     line_box fonts s head heap      a list packed to hsize, as a line with the current attributes
use Rattle.std.specs.Prelude.{ℕ, pos, List, Option, Result, Ok, Err}
use Rattle.ntx_num.specs.Answer.{result_map}
use Rattle.ntx_nodes.specs.Heap.{Heap}
use Rattle.ntx_nodes.specs.Steps.{at, wear_current_step}
use Rattle.ntx_nodes.specs.declared.contents.BoxFields.{BoxFields}
use Rattle.ntx_nodes.specs.declared.field.Field.TheVariants.{Subtype}
use Rattle.ntx_nodes.specs.declared.field.FieldValue.TheVariants.{Number}
use Rattle.ntx_nodes.specs.declared.fields.Contents.{Contents}
use Rattle.ntx_nodes.specs.declared.fields.Contents.TheVariants as contents
use Rattle.ntx_nodes.specs.declared.trouble.Trouble.{Trouble}
use Rattle.ntx_nodes.specs.declared.trouble.Trouble.TheVariants.{WrongKind}
use Rattle.ntx_tfm.specs.Font.{FontTables}
use Rattle.ntx_item.specs.Settings.{Settings}
use Rattle.ntx_item.specs.declared.pack_to.PackTo.TheVariants.{Exactly}
use Rattle.ntx_pack.specs.Pack.{hpack_step}
use Rattle.ntx_num.specs.Trace.{Trace, stepped, trace_and_then}
use Rattle.ntx_lines.specs.Making.{set}

-- the subtype of an hlist that is a line
abbrev pub line_subtype : ℕ
line_subtype = 1

abbrev pub fields_of_box : ℕ → Contents → Result BoxFields Trouble
fields_of_box n (contents.Hlist b) = Ok b
fields_of_box n (contents.Vlist b) = Ok b
fields_of_box n _ = Err (WrongKind n)

abbrev pub box_fields_at : ℕ → Heap → Result BoxFields Trouble
box_fields_at n heap = at heap n (λ node. fields_of_box n node.fields.contents)

abbrev pub line_box : List FontTables → Settings → Option ℕ → Heap → Trace Heap ℕ Trouble
line_box fonts s head heap =
    trace_and_then (stepped (result_map (λ made. (made.0.0, made.1)) (hpack_step fonts head (Exactly s.hsize) heap)) heap) (λ n packed.
    trace_and_then (set n (Subtype, Number (pos line_subtype)) packed) (λ _ named. stepped (result_map (λ done. (n, done.1)) (wear_current_step n named)) named))
