-- A broken paragraph as a vertical list of lines ("TeX: The Program", sections 876 to 890), as a trace of heaps.
--     line_made fonts s above front part later     one line, from the end of the line before to the penalty after it, where so many lines come later
--     paragraph heap fonts head                    the items and the names of a list; it refuses as `items` does
--     lines fonts s head places heap               the whole pass: the head of the vertical list, and the number of lines
use Rattle.std.specs.Prelude.{ℕ, zero, suc, nat_eq, Bool, if◌then◌else◌, List, [], ◌∷◌, length, Option, Some, is_none, unwrap_or, Result, Ok}
use Rattle.ntx_num.specs.Answer.{result_map, result_and_then}
use Rattle.ntx_num.specs.Trace.{Trace, stays, trace_and_then}
use Rattle.ntx_nodes.specs.Heap.{Heap}
use Rattle.ntx_nodes.specs.Walk.{flat_walk}
use Rattle.ntx_nodes.specs.declared.kind.ListKind.TheVariants.{H}
use Rattle.ntx_nodes.specs.declared.trouble.Trouble.{Trouble}
use Rattle.ntx_tfm.specs.Font.{FontTables}
use Rattle.ntx_item.specs.Settings.{Settings}
use Rattle.ntx_item.specs.declared.item.Item.{Item}
use Rattle.ntx_view.specs.View.{items_answer}
use Rattle.ntx_lines.specs.declared.above.Above.{Above}
use Rattle.ntx_lines.specs.declared.ends.Ends.{Ends}
use Rattle.ntx_lines.specs.declared.line_end.Ended.{Ended}
use Rattle.ntx_lines.specs.Ends.{no_nodes, ends_of, joined}
use Rattle.ntx_lines.specs.Parts.{Part, parts_of}
use Rattle.ntx_lines.specs.LineEnd.{ended, discards}
use Rattle.ntx_lines.specs.Skips.{with_rightskip, with_leftskip}
use Rattle.ntx_lines.specs.LineBox.{line_box}
use Rattle.ntx_lines.specs.Above.{nothing_above, with_box, line_penalty, with_penalty}

-- ---- one line

-- the line has rightskip at its end
abbrev pub with_right : Settings → Ended → Heap → Trace Heap Ends Trouble
with_right s line heap = if line.has_rightskip then stays heap (Ok line.line) else with_rightskip s line.line heap

-- the nodes from a head on in a box of the vertical list
abbrev pub boxed : List FontTables → Settings → Above → Option ℕ → Heap → Trace Heap Above Trouble
boxed fonts s above head heap =
    trace_and_then (with_leftskip s head heap) (λ first skipped.
    trace_and_then (line_box fonts s first skipped) (λ n packed. with_box s above n packed))

-- a penalty after a line that so many come after, unless it is the last one
abbrev pub penalized : Settings → Bool → Bool → ℕ → Above → Heap → Trace Heap Above Trouble
penalized s is_first is_hyphenated zero above heap = stays heap (Ok above)
penalized s is_first is_hyphenated (suc others) above heap = with_penalty (line_penalty s is_first (nat_eq others 0) is_hyphenated) above heap

-- The line ends at its break, gets rightskip, its break discards what follows, it gets leftskip, is packed, and comes into the vertical list with
-- interline glue before it and a penalty after it. The second result is what begins the next line.
abbrev pub line_made : List FontTables → Settings → Above → Ends → Part → ℕ → Heap → Trace Heap (Above × Ends) Trouble
line_made fonts s above front part later heap =
    trace_and_then (ended s (joined front (ends_of part.body)) part.at part.after heap) (λ line parted.
    trace_and_then (with_right s line parted) (λ whole righted.
    trace_and_then (discards part.discarded righted) (λ _ rest.
    trace_and_then (boxed fonts s above whole.first rest) (λ longer stacked.
    trace_and_then (penalized s (is_none above.first) line.is_hyphenated later longer stacked) (λ longest new. stays new (Ok (longest, line.front)))))))

-- ---- all lines
abbrev pub lines_made : List FontTables → Settings → Above → Ends → List Part → Heap → Trace Heap Above Trouble
lines_made fonts s above front [] heap = stays heap (Ok above)
lines_made fonts s above front (part ∷ later) heap =
    trace_and_then (line_made fonts s above front part (length later) heap) (λ done new. lines_made fonts s done.0 done.1 later new)

abbrev pub paragraph : Heap → List FontTables → ℕ → Result (List Item × List ℕ) Trouble
paragraph heap fonts head =
    result_and_then (items_answer heap fonts (Some head) H) (λ items. result_map (λ names. (items, names)) (flat_walk heap (Some head)))

abbrev pub lines : List FontTables → Settings → ℕ → List ℕ → Heap → Trace Heap (ℕ × ℕ) Trouble
lines fonts s head places heap =
    trace_and_then (stays heap (paragraph heap fonts head)) (λ read h.
    trace_and_then (lines_made fonts s nothing_above no_nodes (parts_of read.0 read.1 0 places) h) (λ above new. stays new (Ok (unwrap_or above.first head, length places))))
