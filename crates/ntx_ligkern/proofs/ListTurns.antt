-- Turns in a list with discretionaries.
use Rattle.std.proofs.Common.{◌≡◌, ℕ, List, [], ◌∷◌, slice_get, Some, None, Ok, Err, refl, sym, ◌∙◌, ap, subst}
use Rattle.std.specs.Prelude.{Option}
use Rattle.std.specs.Option.{option_or}
use Rattle.ntx_num.specs.Trace.{Trace, stays, trace_and_then, EndsAs}
use Rattle.ntx_num.specs.declared.answer.Fail.{Fail}
use Rattle.ntx_num.proofs.Traces.{begins_stays, ends_later, ends_there}
use Rattle.ntx_nodes.specs.Heap.{Heap}
use Rattle.ntx_nodes.specs.declared.contents.DiscFields.{DiscFields}
use Rattle.ntx_nodes.specs.declared.trouble.Trouble.{Trouble}
use Rattle.ntx_tfm.specs.Font.{FontTables}
use Rattle.ntx_ligkern.specs.Ligatures.{Spot, moved_on, lig_between, ligated}
use Rattle.ntx_ligkern.specs.Ligaturing.{Chore, AtDisc, InList, from_spot, disc_at, drawn_before, goes_to, with_chores, head_after, draw_or_move, right_of_disc, next_disc, before_disc, step_in_list, list_turn, turn}
use Rattle.ntx_ligkern.specs.declared.lig.Lig.{Lig}
use Rattle.ntx_ligkern.specs.inner.Chores.{RunsOn, RunsTo}
use Rattle.ntx_ligkern.proofs.Turning.{turn_goes, turn_stops, turn_there, spot_goes, spot_stops}

-- ---- at a discretionary
pub at_disc_goes : (fonts : List FontTables) (head : ℕ) (spot : Spot) (d : DiscFields) (heap : Heap) → Some d ≡ disc_at heap spot.at → RunsOn fonts head (InList spot ∷ []) heap head (AtDisc spot.at spot.ahead ∷ []) heap
at_disc_goes fonts head spot d heap is = turn_there fonts head head (InList spot) (AtDisc spot.at spot.ahead ∷ []) heap (ap (λ o. list_turn fonts head spot o heap) (sym is))

-- ---- at another node
-- a step
steps : (fonts : List FontTables) (head : ℕ) (spot : Spot) (lig : Lig) (y : ℕ) (rest : List ℕ) (heap : Heap) → None ≡ disc_at heap spot.at → Some lig ≡ lig_between fonts heap (Some spot.at) (slice_get spot.ahead 0) → spot.ahead ≡ y ∷ rest
    → turn fonts head (InList spot) heap ≡ with_chores head InList (ligated spot lig y rest heap)
steps fonts head spot lig y rest heap none some split =
    ap (λ o. list_turn fonts head spot o heap) (sym none) ∙ ap (λ o. step_in_list fonts head spot o spot.ahead heap) (sym some) ∙ ap (λ (xs : List ℕ). step_in_list fonts head spot (Some lig) xs heap) split

pub list_steps : (fonts : List FontTables) (head : ℕ) (spot : Spot) (lig : Lig) (y : ℕ) (rest : List ℕ) (next : Option Spot) (heap new : Heap) → None ≡ disc_at heap spot.at → Some lig ≡ lig_between fonts heap (Some spot.at) (slice_get spot.ahead 0)
    → spot.ahead ≡ y ∷ rest → EndsAs (Ok next) new (ligated spot lig y rest heap) → RunsOn fonts head (InList spot ∷ []) heap head (from_spot InList next) new
list_steps fonts head spot lig y rest next heap new none some split e =
    turn_goes fonts head head (InList spot) (from_spot InList next) heap new
    (subst (EndsAs (Ok (head, from_spot InList next)) new) (sym (steps fonts head spot lig y rest heap none some split)) (spot_goes head InList next new (ligated spot lig y rest heap) e))

pub list_stops : (fonts : List FontTables) (head : ℕ) (spot : Spot) (lig : Lig) (y : ℕ) (rest : List ℕ) (heap new : Heap) (e : Fail Trouble) → None ≡ disc_at heap spot.at → Some lig ≡ lig_between fonts heap (Some spot.at) (slice_get spot.ahead 0)
    → spot.ahead ≡ y ∷ rest → EndsAs {A = Option Spot} (Err e) new (ligated spot lig y rest heap) → RunsTo fonts head (InList spot ∷ []) heap e new
list_stops fonts head spot lig y rest heap new e none some split h =
    turn_stops fonts head (InList spot) heap new e
    (subst (EndsAs {A = ℕ × List Chore} (Err e) new) (sym (steps fonts head spot lig y rest heap none some split)) (spot_stops head InList new e (ligated spot lig y rest heap) h))

-- no step: at the end, or before a discretionary
no_step : (fonts : List FontTables) (head : ℕ) (spot : Spot) (o : Option Lig) (heap : Heap) → None ≡ o → step_in_list fonts head spot o spot.ahead heap ≡ before_disc fonts head spot (next_disc heap spot.ahead) heap
no_step fonts head spot None heap e = refl
no_step fonts head spot (Some lig) heap e = cc

before_is : (fonts : List FontTables) (head : ℕ) (spot : Spot) (heap : Heap) → None ≡ disc_at heap spot.at → None ≡ lig_between fonts heap (Some spot.at) (slice_get spot.ahead 0)
    → turn fonts head (InList spot) heap ≡ before_disc fonts head spot (next_disc heap spot.ahead) heap
before_is fonts head spot heap none unlig = ap (λ o. list_turn fonts head spot o heap) (sym none) ∙ no_step fonts head spot (lig_between fonts heap (Some spot.at) (slice_get spot.ahead 0)) heap unlig

no_disc : (head : ℕ) (spot : Spot) (d : Option DiscFields) (ahead : List ℕ) (lig : Option Lig) (heap : Heap) → None ≡ d → draw_or_move head spot d ahead lig heap ≡ goes_to head (from_spot InList (moved_on spot)) heap
no_disc head spot None [] None heap e = refl
no_disc head spot None [] (Some lig) heap e = refl
no_disc head spot None (n ∷ rest) None heap e = refl
no_disc head spot None (n ∷ rest) (Some lig) heap e = refl
no_disc head spot (Some d) ahead lig heap e = cc

no_lig : (head : ℕ) (spot : Spot) (d : Option DiscFields) (ahead : List ℕ) (lig : Option Lig) (heap : Heap) → None ≡ lig → draw_or_move head spot d ahead lig heap ≡ goes_to head (from_spot InList (moved_on spot)) heap
no_lig head spot None [] None heap e = refl
no_lig head spot None (n ∷ rest) None heap e = refl
no_lig head spot (Some d) [] None heap e = refl
no_lig head spot (Some d) (n ∷ rest) None heap e = refl
no_lig head spot d ahead (Some lig) heap e = cc

pub moves_no_disc : (fonts : List FontTables) (head : ℕ) (spot : Spot) (next : Option Spot) (heap : Heap) → None ≡ disc_at heap spot.at → None ≡ lig_between fonts heap (Some spot.at) (slice_get spot.ahead 0) → None ≡ next_disc heap spot.ahead → next ≡ moved_on spot
    → RunsOn fonts head (InList spot ∷ []) heap head (from_spot InList next) heap
moves_no_disc fonts head spot next heap none unlig out is =
    turn_there fonts head head (InList spot) (from_spot InList next) heap
    (before_is fonts head spot heap none unlig
    ∙ no_disc head spot (next_disc heap spot.ahead) spot.ahead (lig_between fonts heap (Some spot.at) (right_of_disc (next_disc heap spot.ahead) spot.ahead)) heap out
    ∙ ap (λ s. goes_to head (from_spot InList s) heap) (sym is))

pub moves_no_lig : (fonts : List FontTables) (head : ℕ) (spot : Spot) (next : Option Spot) (heap : Heap) → None ≡ disc_at heap spot.at → None ≡ lig_between fonts heap (Some spot.at) (slice_get spot.ahead 0)
    → None ≡ lig_between fonts heap (Some spot.at) (right_of_disc (next_disc heap spot.ahead) spot.ahead) → next ≡ moved_on spot → RunsOn fonts head (InList spot ∷ []) heap head (from_spot InList next) heap
moves_no_lig fonts head spot next heap none unlig out is =
    turn_there fonts head head (InList spot) (from_spot InList next) heap
    (before_is fonts head spot heap none unlig
    ∙ no_lig head spot (next_disc heap spot.ahead) spot.ahead (lig_between fonts heap (Some spot.at) (right_of_disc (next_disc heap spot.ahead) spot.ahead)) heap out
    ∙ ap (λ s. goes_to head (from_spot InList s) heap) (sym is))

-- the glyph goes into the discretionary
abbrev then_disc : ℕ → Option ℕ → ℕ → List ℕ → Unit {0} → Heap → Trace Heap (ℕ × List Chore) Trouble
then_disc head before disc rest _ done = stays done (Ok (head_after head before disc, AtDisc disc rest ∷ []))

draws : (fonts : List FontTables) (head : ℕ) (spot : Spot) (d : DiscFields) (disc : ℕ) (rest : List ℕ) (lig : Lig) (heap : Heap) → None ≡ disc_at heap spot.at → None ≡ lig_between fonts heap (Some spot.at) (slice_get spot.ahead 0)
    → spot.ahead ≡ disc ∷ rest → Some d ≡ disc_at heap disc → Some lig ≡ lig_between fonts heap (Some spot.at) (option_or d.replace (slice_get spot.ahead 1))
    → turn fonts head (InList spot) heap ≡ trace_and_then (drawn_before spot.before spot.at disc d heap) (then_disc head spot.before disc rest)
draws fonts head spot d disc rest lig heap none unlig split is some =
    let there : Some d ≡ next_disc heap spot.ahead = is ∙ ap (λ (xs : List ℕ). next_disc heap xs) (sym split) in
    before_is fonts head spot heap none unlig
    ∙ ap (λ o. before_disc fonts head spot o heap) (sym there)
    ∙ ap (λ o. draw_or_move head spot (Some d) spot.ahead o heap) (sym some)
    ∙ ap (λ (xs : List ℕ). draw_or_move head spot (Some d) xs (Some lig) heap) split

pub draw_goes : (fonts : List FontTables) (head : ℕ) (spot : Spot) (d : DiscFields) (disc : ℕ) (rest : List ℕ) (lig : Lig) (heap new : Heap) → None ≡ disc_at heap spot.at → None ≡ lig_between fonts heap (Some spot.at) (slice_get spot.ahead 0)
    → spot.ahead ≡ disc ∷ rest → Some d ≡ disc_at heap disc → Some lig ≡ lig_between fonts heap (Some spot.at) (option_or d.replace (slice_get spot.ahead 1)) → EndsAs (Ok tt) new (drawn_before spot.before spot.at disc d heap)
    → RunsOn fonts head (InList spot ∷ []) heap (head_after head spot.before disc) (AtDisc disc rest ∷ []) new
draw_goes fonts head spot d disc rest lig heap new none unlig split is some e =
    let later = head_after head spot.before disc in
    turn_goes fonts head later (InList spot) (AtDisc disc rest ∷ []) heap new
    (subst (EndsAs (Ok (later, AtDisc disc rest ∷ [])) new) (sym (draws fonts head spot d disc rest lig heap none unlig split is some))
    (ends_later (drawn_before spot.before spot.at disc d heap) tt new new (then_disc head spot.before disc rest) (Ok (later, AtDisc disc rest ∷ [])) e (refl, refl)))

pub draw_stops : (fonts : List FontTables) (head : ℕ) (spot : Spot) (d : DiscFields) (disc : ℕ) (rest : List ℕ) (lig : Lig) (heap new : Heap) (e : Fail Trouble) → None ≡ disc_at heap spot.at → None ≡ lig_between fonts heap (Some spot.at) (slice_get spot.ahead 0)
    → spot.ahead ≡ disc ∷ rest → Some d ≡ disc_at heap disc → Some lig ≡ lig_between fonts heap (Some spot.at) (option_or d.replace (slice_get spot.ahead 1)) → EndsAs {A = Unit {0}} (Err e) new (drawn_before spot.before spot.at disc d heap)
    → RunsTo fonts head (InList spot ∷ []) heap e new
draw_stops fonts head spot d disc rest lig heap new e none unlig split is some h =
    turn_stops fonts head (InList spot) heap new e
    (subst (EndsAs {A = ℕ × List Chore} (Err e) new) (sym (draws fonts head spot d disc rest lig heap none unlig split is some))
    (ends_there (drawn_before spot.before spot.at disc d heap) new (then_disc head spot.before disc rest) e (λ _ x. begins_stays x (Ok (head_after head spot.before disc, AtDisc disc rest ∷ []))) h))
