-- What shipping a page does, from what its parts do.
use Rattle.std.proofs.Common.{◌≡◌, ℕ, List, Ok, Err, refl, ap, sym, subst}
use Rattle.std.specs.Prelude.{Result, Some, IsOk}
use Rattle.ntx_num.specs.Answer.{Answers, StepsAtOnce, result_map}
use Rattle.ntx_num.specs.declared.answer.Fail.{Fail}
use Rattle.ntx_num.specs.declared.answer.Fail.TheVariants.{NoMemory, Is}
use Rattle.ntx_nodes.specs.Heap.{Heap}
use Rattle.ntx_nodes.specs.Walk.{plain_walk}
use Rattle.ntx_nodes.specs.declared.trouble.Trouble.{Trouble}
use Rattle.ntx_lists.specs.Trees.{without, flush_list_step}
use Rattle.ntx_tfm.specs.Font.{FontTables}
use Rattle.ntx_dvi.specs.declared.full.DviFull.{DviFull}
use Rattle.ntx_dvi.specs.Operation.{Operation}
use Rattle.ntx_dvi.specs.Writer.{Writer}
use Rattle.ntx_dvi.specs.Written.{Writes}
use Rattle.ntx_dvi.proofs.Writing.{writes_none}
use Rattle.ntx_ship.specs.Placed.{Page}
use Rattle.ntx_ship.specs.Operations.{page_operations}
use Rattle.ntx_ship.specs.Shipping.{Ships}
use Rattle.ntx_ship.specs.inner.Refusals.{refused_as, full_as}

-- the operations of a page, or its refusal
abbrev pub written_as : List FontTables → Writer → Result Page Trouble → Result (List Operation) Trouble
written_as fonts w page = result_map (page_operations fonts w.progress) page

pub refused_ships : (why : Fail Trouble) (w : Writer) (fonts : List FontTables) (page : Result Page Trouble) → Answers {A = Page} (Err why) page → Ships (Err (refused_as why)) w w (written_as fonts w page)
refused_ships (Is why) w fonts page e = record { done = (ap (written_as fonts w) e, refl) }
refused_ships NoMemory w fonts (Ok seen) e = record { done = (writes_none w (page_operations fonts w.progress seen)).done }
refused_ships NoMemory w fonts (Err why) e = record { done = refl }

pub done_ships : {a : Unit {0}} (b : Unit {0}) (old new : Writer) (fonts : List FontTables) (seen : Page) (page : Result Page Trouble) → page ≡ Ok seen → Writes (Ok a) old new (page_operations fonts old.progress seen) → Ships (Ok b) old new (written_as fonts old page)
done_ships b old new fonts seen page is writes =
    subst (λ (p : Result Page Trouble). Ships (Ok b) old new (written_as fonts old p)) (sym is) (record { done = writes.done })

full_ships_so : (why : Fail DviFull) (old new : Writer) (operations : List Operation) → Writes (Err why) old new operations → Ships (Err (full_as why)) old new (Ok operations)
full_ships_so (Is full) old new operations writes = record { done = writes.done }
full_ships_so NoMemory old new operations writes = record { done = writes.done }

pub full_ships : (why : Fail DviFull) (old new : Writer) (fonts : List FontTables) (seen : Page) (page : Result Page Trouble) → page ≡ Ok seen → Writes (Err why) old new (page_operations fonts old.progress seen) → Ships (Err (full_as why)) old new (written_as fonts old page)
full_ships why old new fonts seen page is writes =
    subst (λ (p : Result Page Trouble). Ships (Err (full_as why)) old new (written_as fonts old p)) (sym is)
    (full_ships_so why old new (page_operations fonts old.progress seen) writes)

-- ---- freeing

-- the heap without what a walk reached
abbrev rest_of : Heap → List ℕ → Unit {0} × Heap
rest_of heap names = (tt, without heap names)

refuses_not : (why : Trouble) (heap : Heap) (names : List ℕ) → ◌≡◌ {A = Result (Unit {0} × Heap) Trouble} (Ok (rest_of heap names)) (Err why) → ⊥
refuses_not why heap names e = cc

freed_so : (walk : Result (List ℕ) Trouble) (result : Result (Unit {0}) Trouble) (old new : Heap) → IsOk walk → StepsAtOnce result old new (result_map (rest_of old) walk) → result_map (rest_of old) walk ≡ Ok (tt, new)
freed_so walk (Ok a) old new ok step = step
freed_so (Ok names) (Err why) old new ok step = absurd (refuses_not why old names step.0)
freed_so (Err e) (Err why) old new ok step = cc

-- A list that a walk reaches is freed, whatever the call answers.
pub freed : (result : Result (Unit {0}) Trouble) (old new : Heap) (page : ℕ) → IsOk (plain_walk old (Some page)) → StepsAtOnce result old new (flush_list_step (Some page) old) → flush_list_step (Some page) old ≡ Ok (tt, new)
freed result old new page ok step = freed_so (plain_walk old (Some page)) result old new ok step
