-- Kerning a list ("TeX: The Program", section 1040), as a trace of heaps, one kern after another.
--     kern_made k heap               one kern, with the attributes of the glyph on its left
--     kerned_list fonts head heap    the pass over the list at a head: its value is the head, which stays
use Rattle.std.specs.Prelude.{ℕ, List, Some, Result, Ok, Err}
use Rattle.ntx_num.specs.Trace.{Trace, stays, trace_and_then, each_in_turn}
use Rattle.ntx_nodes.specs.Heap.{Heap}
use Rattle.ntx_nodes.specs.Walk.{checked_walk}
use Rattle.ntx_nodes.specs.declared.fields.Contents.TheVariants as contents
use Rattle.ntx_nodes.specs.declared.fields.Fields.{Fields}
use Rattle.ntx_nodes.specs.declared.kind.ListKind.TheVariants.{H}
use Rattle.ntx_nodes.specs.declared.trouble.Trouble.{Trouble}
use Rattle.ntx_lists.specs.MadeNodes.{made_and_linked}
use Rattle.ntx_tfm.specs.Font.{FontTables}
use Rattle.ntx_ligkern.specs.Along.{along}
use Rattle.ntx_ligkern.specs.Kerns.{kerns_of}
use Rattle.ntx_ligkern.specs.declared.place.Kerning.{Kerning}

-- a kern that comes from a font has subtype 0
abbrev pub kern_fields : Kerning → Fields
kern_fields k = record { subtype = 0; next = k.place.next; contents = contents.Kern k.width }

-- It is made with the attributes of the glyph on its left, its own `next` first, and then a link leads to it.
abbrev pub kern_made : Kerning → Heap → Trace Heap (Unit {0}) Trouble
kern_made k heap = trace_and_then (made_and_linked (kern_fields k) k.left k.place.at k.place.field heap) (λ _ made. stays made (Ok tt))

-- the check of a horizontal list comes first; where it refuses, the pass does
abbrev pub kerned_if : List FontTables → ℕ → Result (List ℕ) Trouble → Heap → Trace Heap ℕ Trouble
kerned_if fonts head (Err why) heap = stays heap (Err why)
kerned_if fonts head (Ok _) heap = trace_and_then (each_in_turn kern_made (kerns_of fonts heap (along heap (Some head))) heap) (λ _ last. stays last (Ok head))

abbrev pub kerned_list : List FontTables → ℕ → Heap → Trace Heap ℕ Trouble
kerned_list fonts head heap = kerned_if fonts head (checked_walk heap (Some head) H) heap
