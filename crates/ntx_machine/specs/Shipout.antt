-- Writing pages into the DVI file ("TeX: The Program", sections 592 to 642).
--     shipped fonts page      the page with the box of this name is written, and its nodes are freed
--     ended fonts             the end of a job: the last page and the postamble
use Rattle.std.specs.Prelude.{ℕ, List, Option, None, Some, Ok}
use Rattle.ntx_nodes.specs.declared.trouble.Phase.TheVariants as phase
use Rattle.ntx_lists.specs.Trees.{flush_list_step}
use Rattle.ntx_tfm.specs.Font.{FontTables}
use Rattle.ntx_num.specs.Trace.{stays, trace_and_then, each_in_turn}
use Rattle.ntx_dvi.specs.Operation.{Begin, End}
use Rattle.ntx_ship.specs.Shipping.{operations_of}
use Rattle.ntx_machine.specs.State.{State, Course, heap_step, found, write}
use Rattle.ntx_machine.specs.Page.{last_page}

-- The operations of the page are written one after another. If one of them finds no room those before it stay written, and the page's nodes stay.
abbrev pub shipped : List FontTables → ℕ → State → Course (Unit {0})
shipped fonts page state =
    trace_and_then (found phase.Ship (operations_of state.heap fonts page state.writer.progress) state) (λ operations s.
    trace_and_then (each_in_turn write operations s) (λ _ t. heap_step phase.Ship (flush_list_step (Some page)) t))

abbrev pub shipped_if : List FontTables → Option ℕ → State → Course (Unit {0})
shipped_if fonts None state = stays state (Ok tt)
shipped_if fonts (Some page) state = shipped fonts page state

-- The last page is made before anything is written. The preamble is written even if the page is then refused, and if there is no page.
abbrev pub ended : List FontTables → State → Course (Unit {0})
ended fonts state =
    trace_and_then (last_page fonts state) (λ page s.
    trace_and_then (write Begin s) (λ _ t.
    trace_and_then (shipped_if fonts page t) (λ _ u. write End u)))
