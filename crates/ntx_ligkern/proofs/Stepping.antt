-- How a ligature step ends, and a turn in a list without discretionaries.
use Rattle.std.proofs.Common.{◌≡◌, ℕ, ◌<◌, ◌≤◌, true, false, if◌then◌else◌, List, [], ◌∷◌, slice_get, Some, None, Ok, Err, refl, sym, ◌∙◌, ap, subst, arith}
use Rattle.std.specs.Prelude.{Option, Result, nat_le}
use Rattle.std.proofs.lemmas.Bool.Decides.{nat_tests}
use Rattle.ntx_num.specs.Trace.{Trace, stays, trace_and_then, EndsAs}
use Rattle.ntx_num.specs.declared.answer.Fail.{Fail}
use Rattle.ntx_num.specs.declared.answer.Fail.TheVariants.{NoMemory, Is}
use Rattle.ntx_num.proofs.Traces.{begins_stays, ends_later, ends_there}
use Rattle.ntx_nodes.specs.Heap.{Heap}
use Rattle.ntx_nodes.specs.declared.trouble.Trouble.{Trouble}
use Rattle.ntx_nodes.specs.declared.trouble.Trouble.TheVariants.{LigLoop}
use Rattle.ntx_tfm.specs.Font.{FontTables}
use Rattle.ntx_ligkern.specs.Ligatures.{Spot, moved_on, lig_between, joined, spot_after, ligated}
use Rattle.ntx_ligkern.specs.Ligaturing.{step_in_part, part_turn}
use Rattle.ntx_ligkern.specs.declared.lig.Lig.{Lig}

-- ---- one step
abbrev then_go : Spot → Lig → ℕ → List ℕ → ℕ → Heap → Trace Heap (Option Spot) Trouble
then_go spot lig y rest holder done = stays done (Ok (spot_after spot lig holder y rest))

abbrev going : Spot → Lig → ℕ → List ℕ → Option ℕ → Heap → Trace Heap (Option Spot) Trouble
going spot lig y rest next heap = trace_and_then (joined spot.at lig y next heap) (then_go spot lig y rest)

below_most : (count : ℕ) → count < 255 → nat_le 255 count ≡ false
below_most count h = grind (arith, nat_tests)

at_most : (count : ℕ) → 255 ≤ count → nat_le 255 count ≡ true
at_most count h = grind (arith, nat_tests)

goes_on : (spot : Spot) (lig : Lig) (y : ℕ) (rest : List ℕ) (next : Option ℕ) (heap : Heap) → spot.count < 255 → next ≡ slice_get rest 0 → going spot lig y rest next heap ≡ ligated spot lig y rest heap
goes_on spot lig y rest next heap low is =
    ap (λ o. going spot lig y rest o heap) is ∙ ap (λ b. if b then stays heap (Err LigLoop) else going spot lig y rest (slice_get rest 0) heap) (sym (below_most spot.count low))

-- 255 steps were made
pub step_loops : (spot : Spot) (lig : Lig) (y : ℕ) (rest : List ℕ) (heap : Heap) → 255 ≤ spot.count → EndsAs {A = Option Spot} (Err (Is LigLoop)) heap (ligated spot lig y rest heap)
step_loops spot lig y rest heap high =
    subst (λ b. EndsAs {A = Option Spot} (Err (Is LigLoop)) heap (if b then stays heap (Err LigLoop) else going spot lig y rest (slice_get rest 0) heap)) (sym (at_most spot.count high)) (refl, refl)

pub step_stops : (spot : Spot) (lig : Lig) (y : ℕ) (rest : List ℕ) (next : Option ℕ) (heap new : Heap) (e : Fail Trouble) → spot.count < 255 → next ≡ slice_get rest 0 → EndsAs {A = ℕ} (Err e) new (joined spot.at lig y next heap)
    → EndsAs {A = Option Spot} (Err e) new (ligated spot lig y rest heap)
step_stops spot lig y rest next heap new e low is h =
    subst (EndsAs {A = Option Spot} (Err e) new) (goes_on spot lig y rest next heap low is)
    (ends_there (joined spot.at lig y next heap) new (then_go spot lig y rest) e (λ holder x. begins_stays x (Ok (spot_after spot lig holder y rest))) h)

-- memory ran out when the result was put before the nodes ahead
pub step_full : (spot : Spot) (lig : Lig) (y holder : ℕ) (rest : List ℕ) (next : Option ℕ) (heap new : Heap) → spot.count < 255 → next ≡ slice_get rest 0 → EndsAs (Ok holder) new (joined spot.at lig y next heap)
    → EndsAs {A = Option Spot} (Err NoMemory) new (ligated spot lig y rest heap)
step_full spot lig y holder rest next heap new low is h =
    subst (EndsAs {A = Option Spot} (Err NoMemory) new) (goes_on spot lig y rest next heap low is)
    (ends_later (joined spot.at lig y next heap) holder new new (then_go spot lig y rest) (Err NoMemory) h ([], [], refl))

pub step_done : (spot : Spot) (lig : Lig) (y holder : ℕ) (rest : List ℕ) (next : Option ℕ) (to : Option Spot) (heap new : Heap) → spot.count < 255 → next ≡ slice_get rest 0 → to ≡ spot_after spot lig holder y rest
    → EndsAs (Ok holder) new (joined spot.at lig y next heap) → EndsAs (Ok to) new (ligated spot lig y rest heap)
step_done spot lig y holder rest next to heap new low is gives h =
    subst (EndsAs (Ok to) new) (goes_on spot lig y rest next heap low is) (ends_later (joined spot.at lig y next heap) holder new new (then_go spot lig y rest) (Ok to) h (ap Ok (sym gives), refl))

-- ---- one turn
pub part_steps : (fonts : List FontTables) (spot : Spot) (lig : Lig) (y : ℕ) (rest : List ℕ) (next : Option ℕ) (heap new : Heap) (r : Result (Option Spot) (Fail Trouble)) → next ≡ slice_get spot.ahead 0 → Some lig ≡ lig_between fonts heap (Some spot.at) next
    → spot.ahead ≡ y ∷ rest → EndsAs r new (ligated spot lig y rest heap) → EndsAs r new (part_turn fonts spot heap)
part_steps fonts spot lig y rest next heap new r is some split e =
    subst (EndsAs r new) (sym
    (ap (λ o. step_in_part spot (lig_between fonts heap (Some spot.at) o) spot.ahead heap) (sym is)
    ∙ ap (λ o. step_in_part spot o spot.ahead heap) (sym some)
    ∙ ap (λ (xs : List ℕ). step_in_part spot (Some lig) xs heap) split)) e

moves : (spot : Spot) (o : Option Lig) (names : List ℕ) (heap : Heap) → (o ≡ None) → step_in_part spot o names heap ≡ stays heap (Ok (moved_on spot))
moves spot None names heap e = refl
moves spot (Some lig) names heap e = cc

pub part_moves : (fonts : List FontTables) (spot : Spot) (next : Option ℕ) (to : Option Spot) (heap : Heap) → next ≡ slice_get spot.ahead 0 → None ≡ lig_between fonts heap (Some spot.at) next → to ≡ moved_on spot → EndsAs (Ok to) heap (part_turn fonts spot heap)
part_moves fonts spot next to heap is none gives =
    subst (EndsAs (Ok to) heap) (sym
    (ap (λ o. step_in_part spot (lig_between fonts heap (Some spot.at) o) spot.ahead heap) (sym is)
    ∙ moves spot (lig_between fonts heap (Some spot.at) next) spot.ahead heap (sym none))) (ap Ok (sym gives), refl)
