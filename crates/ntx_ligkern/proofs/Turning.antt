-- Turns that follow one another, and turns that end the pass.
use Rattle.std.proofs.Common.{◌≡◌, ℕ, suc, List, [], ◌∷◌, ◌++◌, Ok, Err, refl, sym, ap, subst, append_assoc}
use Rattle.std.specs.Prelude.{Option}
use Rattle.ntx_num.specs.Answer.{result_map}
use Rattle.ntx_num.specs.Trace.{Trace, stays, EndsAs}
use Rattle.ntx_num.specs.declared.answer.Fail.{Fail}
use Rattle.ntx_num.specs.declared.answer.Fail.TheVariants.{NoMemory}
use Rattle.ntx_num.proofs.Traces.{begins_stays, ends_later, ends_there}
use Rattle.ntx_nodes.specs.Heap.{Heap}
use Rattle.ntx_nodes.specs.declared.trouble.Trouble.{Trouble}
use Rattle.ntx_tfm.specs.Font.{FontTables}
use Rattle.ntx_ligkern.specs.Ligatures.{Spot}
use Rattle.ntx_ligkern.specs.Ligaturing.{Chore, from_spot, turn, with_chores, State, state_after, turns, finished}
use Rattle.ntx_ligkern.specs.inner.Chores.{Runs, RunsOn, RunsTo}

abbrev then_turns : ℕ → List FontTables → List Chore → ℕ × List Chore → Heap → Trace Heap State Trouble
then_turns k fonts rest done then = turns k fonts (state_after rest done) then

-- ---- one turn
pub turn_goes : (fonts : List FontTables) (head later : ℕ) (chore : Chore) (left : List Chore) (heap mid : Heap) → EndsAs (Ok (later, left)) mid (turn fonts head chore heap) → RunsOn fonts head (chore ∷ []) heap later left mid
turn_goes fonts head later chore left heap mid e rest r new k = (suc k.0, ends_later (turn fonts head chore heap) (later, left) mid new (then_turns k.0 fonts rest) (result_map finished r) e k.1)

pub turn_stops : (fonts : List FontTables) (head : ℕ) (chore : Chore) (heap new : Heap) (e : Fail Trouble) → EndsAs {A = ℕ × List Chore} (Err e) new (turn fonts head chore heap) → RunsTo fonts head (chore ∷ []) heap e new
turn_stops fonts head chore heap new e h rest = (1, ends_there (turn fonts head chore heap) new (then_turns 0 fonts rest) e (λ done x. begins_stays x (Ok (state_after rest done))) h)

-- a turn that changes nothing
pub stays_there : {A : Type 0} (a : A) (heap : Heap) (t : Trace Heap A Trouble) → t ≡ stays heap (Ok a) → EndsAs (Ok a) heap t
stays_there a heap t e = (ap (λ x. x.ending) e, ap (λ x. x.last) e)

pub turn_there : (fonts : List FontTables) (head later : ℕ) (chore : Chore) (left : List Chore) (heap : Heap) → turn fonts head chore heap ≡ stays heap (Ok (later, left)) → RunsOn fonts head (chore ∷ []) heap later left heap
turn_there fonts head later chore left heap e = turn_goes fonts head later chore left heap heap (stays_there (later, left) heap (turn fonts head chore heap) e)

-- the chores of a spot
abbrev then_spot : ℕ → (Spot → Chore) → Option Spot → Heap → Trace Heap (ℕ × List Chore) Trouble
then_spot head chore spot done = stays done (Ok (head, from_spot chore spot))

pub spot_goes : (head : ℕ) (chore : Spot → Chore) (spot : Option Spot) (new : Heap) (t : Trace Heap (Option Spot) Trouble) → EndsAs (Ok spot) new t → EndsAs (Ok (head, from_spot chore spot)) new (with_chores head chore t)
spot_goes head chore spot new t e = ends_later t spot new new (then_spot head chore) (Ok (head, from_spot chore spot)) e (refl, refl)

pub spot_stops : (head : ℕ) (chore : Spot → Chore) (new : Heap) (e : Fail Trouble) (t : Trace Heap (Option Spot) Trouble) → EndsAs {A = Option Spot} (Err e) new t → EndsAs {A = ℕ × List Chore} (Err e) new (with_chores head chore t)
spot_stops head chore new e t h = ends_there t new (then_spot head chore) e (λ spot x. begins_stays x (Ok (head, from_spot chore spot))) h

-- ---- several turns
pub on_and_on : (fonts : List FontTables) (head mid_head later : ℕ) (chores mids left : List Chore) (heap mid now : Heap) → RunsOn fonts head chores heap mid_head mids mid → RunsOn fonts mid_head mids mid later left now → RunsOn fonts head chores heap later left now
on_and_on fonts head mid_head later chores mids left heap mid now one two rest r new k = one rest r new (two rest r new k)

pub on_and_to : (fonts : List FontTables) (head mid_head : ℕ) (chores mids : List Chore) (heap mid : Heap) (e : Fail Trouble) (new : Heap) → RunsOn fonts head chores heap mid_head mids mid → RunsTo fonts mid_head mids mid e new → RunsTo fonts head chores heap e new
on_and_to fonts head mid_head chores mids heap mid e new one two rest = one rest (Err e) new (two rest)

-- more chores after them
pub on_before : (fonts : List FontTables) (head later : ℕ) (chores left more : List Chore) (heap now : Heap) → RunsOn fonts head chores heap later left now → RunsOn fonts head (chores ++ more) heap later (left ++ more) now
on_before fonts head later chores left more heap now one rest r new k =
    subst (λ x. Runs fonts head x heap r new) (sym (append_assoc chores more rest)) (one (more ++ rest) r new (subst (λ x. Runs fonts later x now r new) (append_assoc left more rest) k))

pub to_before : (fonts : List FontTables) (head : ℕ) (chores more : List Chore) (heap : Heap) (e : Fail Trouble) (new : Heap) → RunsTo fonts head chores heap e new → RunsTo fonts head (chores ++ more) heap e new
to_before fonts head chores more heap e new one rest = subst (λ x. Runs fonts head x heap (Err e) new) (sym (append_assoc chores more rest)) (one (more ++ rest))

-- ---- no turn
pub no_turn : (fonts : List FontTables) (head : ℕ) (chores : List Chore) (heap : Heap) → RunsOn fonts head chores heap head chores heap
no_turn fonts head chores heap rest r new k = k

-- memory runs out before one
pub memory_out : (fonts : List FontTables) (head : ℕ) (chores : List Chore) (heap : Heap) → RunsTo fonts head chores heap NoMemory heap
memory_out fonts head chores heap rest = (0, ([], [], refl))

-- nothing is left
pub all_done : (fonts : List FontTables) (head : ℕ) (heap : Heap) → Runs fonts head [] heap (Ok head) heap
all_done fonts head heap = (0, (refl, refl))
