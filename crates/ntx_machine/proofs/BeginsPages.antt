-- The parts of the courses of pages begin with their state. Each part of a course is what follows one of its steps.
use Rattle.std.proofs.Common.{ℕ, List, Option, None, Some, Ok, pos}
use Rattle.std.specs.Prelude.{ℤ}
use Rattle.ntx_nodes.specs.Steps.{set_step}
use Rattle.ntx_nodes.specs.declared.trouble.Phase.TheVariants as phase
use Rattle.ntx_nodes.specs.declared.field.Field.TheVariants.{Next}
use Rattle.ntx_nodes.specs.declared.field.FieldValue.TheVariants.{Link}
use Rattle.ntx_lists.specs.Trees.{flush_list_step}
use Rattle.ntx_item.specs.declared.glue.GlueSpec.{GlueSpec}
use Rattle.ntx_item.specs.declared.item.Item.{Item}
use Rattle.ntx_item.specs.declared.pack_to.PackTo.TheVariants.{Additional}
use Rattle.ntx_tfm.specs.Font.{FontTables}
use Rattle.ntx_pack.specs.Pack.{vpack_step}
use Rattle.ntx_num.specs.Trace.{stays, trace_and_then, each_in_turn}
use Rattle.ntx_num.proofs.Traces.{Begins, begins_stays, begins_step, begins_then, begins_each}
use Rattle.ntx_dvi.specs.Operation.{Operation, Begin, End}
use Rattle.ntx_ship.specs.Shipping.{operations_of}
use Rattle.ntx_machine.specs.State.{State, Course, heap_step, found, write, changed}
use Rattle.ntx_machine.specs.Nodes.{topskip_glue, glue_node}
use Rattle.ntx_machine.specs.Build.{made}
use Rattle.ntx_machine.specs.Page.{top_of_page, without_main, top_made, page_packed}
use Rattle.ntx_machine.specs.Shipout.{shipped, shipped_if}
use Rattle.ntx_machine.proofs.Steps.{begins_heap_step, begins_found, begins_write}
use Rattle.ntx_machine.proofs.Begins.{worn, begins_worn, begins_made}

-- ---- making a page

abbrev pub topping : ℕ → List Item → State → Course GlueSpec
topping box _ s = found phase.Page (top_of_page s box) s

abbrev pub put_first : ℕ → ℕ → State → Course ℕ
put_first box top s = trace_and_then (heap_step phase.Page (set_step top Next (Link (Some box))) s) (λ _ t. stays t (Ok top))

abbrev pub page_worn : ℕ × ℤ → State → Course ℕ
page_worn page s = worn phase.Page page.0 s

abbrev pub packing : List FontTables → ℕ → Unit {0} → State → Course ℕ
packing fonts top _ s = page_packed fonts top s

abbrev pub emptying : List FontTables → ℕ → State → Course ℕ
emptying fonts top s = trace_and_then (changed (without_main s) s) (packing fonts top)

abbrev pub making : List FontTables → ℕ → GlueSpec → State → Course ℕ
making fonts box glue s = trace_and_then (top_made box glue s) (emptying fonts)

pub begins_topping : (box : ℕ) (items : List Item) (s : State) → Begins (topping box items s) s
begins_topping box items s = begins_found phase.Page (top_of_page s box) s

pub begins_put_first : (box top : ℕ) (s : State) → Begins (put_first box top s) s
begins_put_first box top s =
    let step = set_step top Next (Link (Some box)) in
    begins_then (heap_step phase.Page step s) s (λ _ t. stays t (Ok top)) (λ _ t. begins_stays t (Ok top)) (begins_heap_step phase.Page step s)

pub begins_top_made : (box : ℕ) (glue : GlueSpec) (s : State) → Begins (top_made box glue s) s
begins_top_made box glue s =
    let fields = glue_node topskip_glue glue in
    begins_then (made phase.Page fields s) s (put_first box) (begins_put_first box) (begins_made phase.Page fields s)

pub begins_page_worn : (page : ℕ × ℤ) (s : State) → Begins (page_worn page s) s
begins_page_worn page s = begins_worn phase.Page page.0 s

pub begins_packing : (fonts : List FontTables) (top : ℕ) (u : Unit {0}) (s : State) → Begins (packing fonts top u s) s
begins_packing fonts top u s =
    let step = vpack_step fonts (Some top) (Additional (pos 0)) in
    begins_then (heap_step phase.Page step s) s page_worn begins_page_worn (begins_heap_step phase.Page step s)

pub begins_emptying : (fonts : List FontTables) (top : ℕ) (s : State) → Begins (emptying fonts top s) s
begins_emptying fonts top s = begins_then (changed (without_main s) s) s (packing fonts top) (begins_packing fonts top) (begins_step (Ok (tt, without_main s)) s)

pub begins_making : (fonts : List FontTables) (box : ℕ) (glue : GlueSpec) (s : State) → Begins (making fonts box glue s) s
begins_making fonts box glue s = begins_then (top_made box glue s) s (emptying fonts) (begins_emptying fonts) (begins_top_made box glue s)

-- ---- writing it

-- all operations, one after another
abbrev pub all_written : List Operation → State → Course (Unit {0})
all_written operations s = each_in_turn write operations s

abbrev pub freeing : ℕ → Unit {0} → State → Course (Unit {0})
freeing page _ t = heap_step phase.Ship (flush_list_step (Some page)) t

abbrev pub writing : ℕ → List Operation → State → Course (Unit {0})
writing page operations t = trace_and_then (all_written operations t) (freeing page)

pub begins_all_written : (operations : List Operation) (s : State) → Begins (all_written operations s) s
begins_all_written operations s = begins_each write operations s begins_write

pub begins_freeing : (page : ℕ) (u : Unit {0}) (t : State) → Begins (freeing page u t) t
begins_freeing page u t = begins_heap_step phase.Ship (flush_list_step (Some page)) t

pub begins_writing : (page : ℕ) (operations : List Operation) (t : State) → Begins (writing page operations t) t
begins_writing page operations t = begins_then (all_written operations t) t (freeing page) (begins_freeing page) (begins_all_written operations t)

pub begins_shipped : (fonts : List FontTables) (page : ℕ) (s : State) → Begins (shipped fonts page s) s
begins_shipped fonts page s =
    let operations = operations_of s.heap fonts page s.writer.progress in
    begins_then (found phase.Ship operations s) s (writing page) (begins_writing page) (begins_found phase.Ship operations s)

pub begins_shipped_if : (fonts : List FontTables) (page : Option ℕ) (s : State) → Begins (shipped_if fonts page s) s
begins_shipped_if fonts None s = begins_stays s (Ok tt)
begins_shipped_if fonts (Some page) s = begins_shipped fonts page s

-- ---- the end of a job

abbrev pub ending : Unit {0} → State → Course (Unit {0})
ending _ u = write End u

abbrev pub shipping : List FontTables → Option ℕ → Unit {0} → State → Course (Unit {0})
shipping fonts page _ t = trace_and_then (shipped_if fonts page t) ending

abbrev pub beginning : List FontTables → Option ℕ → State → Course (Unit {0})
beginning fonts page s = trace_and_then (write Begin s) (shipping fonts page)

pub begins_ending : (u : Unit {0}) (s : State) → Begins (ending u s) s
begins_ending u s = begins_write End s

pub begins_shipping : (fonts : List FontTables) (page : Option ℕ) (u : Unit {0}) (t : State) → Begins (shipping fonts page u t) t
begins_shipping fonts page u t = begins_then (shipped_if fonts page t) t ending begins_ending (begins_shipped_if fonts page t)

pub begins_beginning : (fonts : List FontTables) (page : Option ℕ) (s : State) → Begins (beginning fonts page s) s
begins_beginning fonts page s = begins_then (write Begin s) s (shipping fonts page) (begins_shipping fonts page) (begins_write Begin s)
