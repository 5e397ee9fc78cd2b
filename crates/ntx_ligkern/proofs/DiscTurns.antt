-- Discretionaries: chores in the order in which the code does them.
use Rattle.std.proofs.Common.{◌≡◌, ℕ, false, List, [], ◌∷◌, slice_get, Some, None, Ok, Err, refl, sym, ◌∙◌, ap, subst}
use Rattle.std.specs.Prelude.{Option, Result}
use Rattle.ntx_num.specs.Trace.{Trace, stays, trace_and_then, EndsAs}
use Rattle.ntx_num.specs.declared.answer.Fail.{Fail}
use Rattle.ntx_num.proofs.Traces.{begins_stays, ends_later, ends_there}
use Rattle.ntx_nodes.specs.Heap.{Heap}
use Rattle.ntx_nodes.specs.declared.field.Field.{Field}
use Rattle.ntx_nodes.specs.declared.field.Field.TheVariants.{Pre, Post, Replace}
use Rattle.ntx_nodes.specs.declared.trouble.Trouble.{Trouble}
use Rattle.ntx_tfm.specs.Font.{FontTables}
use Rattle.ntx_ligkern.specs.Kerns.{last_of}
use Rattle.ntx_ligkern.specs.Ligatures.{Spot, spot_in, lig_between}
use Rattle.ntx_ligkern.specs.Ligaturing.{Chore, OfDisc, AtDisc, InList, InPart, from_spot, part_at, drawn_after, goes_to, part_turn, disc_turn, at_disc, turn}
use Rattle.ntx_ligkern.specs.declared.lig.Lig.{Lig}
use Rattle.ntx_ligkern.specs.declared.cursor.Cursor.{Cursor}
use Rattle.ntx_ligkern.specs.inner.Cursors.{spot_of, spot_from}
use Rattle.ntx_ligkern.specs.inner.Chores.{RunsOn, RunsTo, Reaches, three_parts, after_absorbing}
use Rattle.ntx_ligkern.proofs.Turning.{turn_goes, turn_stops, turn_there, spot_goes, spot_stops, on_and_on, on_and_to}

-- ---- a list of a discretionary
pub part_begins : (fonts : List FontTables) (head disc : ℕ) (f : Field) (heap : Heap) (names : List ℕ) (spot : Option Spot) → names ≡ part_at heap disc f → spot ≡ spot_in None 0 names → RunsOn fonts head (OfDisc disc f ∷ []) heap head (from_spot InPart spot) heap
part_begins fonts head disc f heap names spot is e =
    turn_there fonts head head (OfDisc disc f) (from_spot InPart spot) heap (ap (λ s. goes_to head (from_spot InPart s) heap) (sym (e ∙ ap (spot_in None 0) is)))

at_cursor : (fonts : List FontTables) (head : ℕ) (start : List Chore) (first heap : Heap) (chore : Spot → Chore) (items : List ℕ) (at : Option Cursor) (cursor : Cursor) → at ≡ Some cursor → RunsOn fonts head start first head (from_spot chore (spot_from items at)) heap
    → RunsOn fonts head start first head (chore (spot_of cursor items) ∷ []) heap
at_cursor fonts head start first heap chore items at cursor is runs = subst (λ (o : Option Cursor). RunsOn fonts head start first head (from_spot chore (spot_from items o)) heap) is runs

pub part_goes : (fonts : List FontTables) (head : ℕ) (start : List Chore) (first heap new : Heap) (items : List ℕ) (at : Option Cursor) (cursor : Cursor) (next : Option Spot) → at ≡ Some cursor
    → RunsOn fonts head start first head (from_spot InPart (spot_from items at)) heap → EndsAs (Ok next) new (part_turn fonts (spot_of cursor items) heap) → RunsOn fonts head start first head (from_spot InPart next) new
part_goes fonts head start first heap new items at cursor next is runs e =
    let spot = spot_of cursor items in
    on_and_on fonts head head head start (InPart spot ∷ []) (from_spot InPart next) first heap new (at_cursor fonts head start first heap InPart items at cursor is runs)
    (turn_goes fonts head head (InPart spot) (from_spot InPart next) heap new (spot_goes head InPart next new (part_turn fonts spot heap) e))

pub part_stops : (fonts : List FontTables) (head : ℕ) (start : List Chore) (first heap new : Heap) (items : List ℕ) (at : Option Cursor) (cursor : Cursor) (e : Fail Trouble) → at ≡ Some cursor
    → RunsOn fonts head start first head (from_spot InPart (spot_from items at)) heap → EndsAs {A = Option Spot} (Err e) new (part_turn fonts (spot_of cursor items) heap) → RunsTo fonts head start first e new
part_stops fonts head start first heap new items at cursor e is runs h =
    let spot = spot_of cursor items in
    on_and_to fonts head head start (InPart spot ∷ []) first heap e new (at_cursor fonts head start first heap InPart items at cursor is runs)
    (turn_stops fonts head (InPart spot) heap new e (spot_stops head InPart new e (part_turn fonts spot heap) h))

no_cursor : (at : Option Cursor) → ((c : Cursor) → at ≡ Some c → ⊥) → at ≡ None
no_cursor None h = refl
no_cursor (Some c) h = absurd (h c refl)

-- the cursor came to the end
pub spots_end : (fonts : List FontTables) (head later : ℕ) (start : List Chore) (first heap : Heap) (chore : Spot → Chore) (items : List ℕ) (at : Option Cursor) → ((c : Cursor) → at ≡ Some c → ⊥)
    → RunsOn fonts head start first later (from_spot chore (spot_from items at)) heap → RunsOn fonts head start first later [] heap
spots_end fonts head later start first heap chore items at is runs = subst (λ (o : Option Cursor). RunsOn fonts head start first later (from_spot chore (spot_from items o)) heap) (no_cursor at is) runs

-- ---- its three lists
pub three_done : (fonts : List FontTables) (head disc : ℕ) (a b c d : Heap) → RunsOn fonts head (OfDisc disc Pre ∷ []) a head [] b → RunsOn fonts head (OfDisc disc Post ∷ []) b head [] c → RunsOn fonts head (OfDisc disc Replace ∷ []) c head [] d
    → RunsOn fonts head (three_parts disc) a head [] d
three_done fonts head disc a b c d one two three rest r new k = one (OfDisc disc Post ∷ OfDisc disc Replace ∷ rest) r new (two (OfDisc disc Replace ∷ rest) r new (three rest r new k))

pub first_stops : (fonts : List FontTables) (head disc : ℕ) (a new : Heap) (e : Fail Trouble) → RunsTo fonts head (OfDisc disc Pre ∷ []) a e new → RunsTo fonts head (three_parts disc) a e new
first_stops fonts head disc a new e one rest = one (OfDisc disc Post ∷ OfDisc disc Replace ∷ rest)

pub second_stops : (fonts : List FontTables) (head disc : ℕ) (a b new : Heap) (e : Fail Trouble) → RunsOn fonts head (OfDisc disc Pre ∷ []) a head [] b → RunsTo fonts head (OfDisc disc Post ∷ []) b e new → RunsTo fonts head (three_parts disc) a e new
second_stops fonts head disc a b new e one two rest = one (OfDisc disc Post ∷ OfDisc disc Replace ∷ rest) (Err e) new (two (OfDisc disc Replace ∷ rest))

pub third_stops : (fonts : List FontTables) (head disc : ℕ) (a b c new : Heap) (e : Fail Trouble) → RunsOn fonts head (OfDisc disc Pre ∷ []) a head [] b → RunsOn fonts head (OfDisc disc Post ∷ []) b head [] c → RunsTo fonts head (OfDisc disc Replace ∷ []) c e new
    → RunsTo fonts head (three_parts disc) a e new
third_stops fonts head disc a b c new e one two three rest = one (OfDisc disc Post ∷ OfDisc disc Replace ∷ rest) (Err e) new (two (OfDisc disc Replace ∷ rest) (Err e) new (three rest))

pub three_reach : (fonts : List FontTables) (disc : ℕ) (a b c d : Heap) (r : Result (Unit {0}) (Fail Trouble)) → ((head : ℕ) → RunsOn fonts head (OfDisc disc Pre ∷ []) a head [] b) → ((head : ℕ) → RunsOn fonts head (OfDisc disc Post ∷ []) b head [] c)
    → Reaches fonts (OfDisc disc Replace ∷ []) c r (λ _. []) d → Reaches fonts (three_parts disc) a r (λ _. []) d
three_reach fonts disc a b c d (Ok x) one two three = λ head. three_done fonts head disc a b c d (one head) (two head) (three head)
three_reach fonts disc a b c d (Err e) one two three = λ head. third_stops fonts head disc a b c d e (one head) (two head) (three head)

-- ---- whether it takes in the next node
abbrev whole_disc : ℕ → List ℕ → List Chore
whole_disc disc ahead = OfDisc disc Pre ∷ OfDisc disc Post ∷ OfDisc disc Replace ∷ from_spot InList (spot_in (Some disc) 0 ahead)

no_last : (head disc : ℕ) (ahead : List ℕ) (lig : Option Lig) (heap : Heap) → disc_turn head disc None ahead lig heap ≡ goes_to head (whole_disc disc ahead) heap
no_last head disc [] None heap = refl
no_last head disc [] (Some lig) heap = refl
no_last head disc (y ∷ rest) None heap = refl
no_last head disc (y ∷ rest) (Some lig) heap = refl

no_next : (head disc : ℕ) (last : Option ℕ) (lig : Option Lig) (heap : Heap) → disc_turn head disc last [] lig heap ≡ goes_to head (whole_disc disc []) heap
no_next head disc None None heap = refl
no_next head disc None (Some lig) heap = refl
no_next head disc (Some last) None heap = refl
no_next head disc (Some last) (Some lig) heap = refl

no_lig : (head disc : ℕ) (last : Option ℕ) (ahead : List ℕ) (heap : Heap) → disc_turn head disc last ahead None heap ≡ goes_to head (whole_disc disc ahead) heap
no_lig head disc None [] heap = refl
no_lig head disc None (y ∷ rest) heap = refl
no_lig head disc (Some last) [] heap = refl
no_lig head disc (Some last) (y ∷ rest) heap = refl

pub stays_out_last : (fonts : List FontTables) (head disc : ℕ) (ahead : List ℕ) (heap : Heap) → None ≡ last_of (part_at heap disc Replace) → RunsOn fonts head (AtDisc disc ahead ∷ []) heap head (after_absorbing false disc ahead) heap
stays_out_last fonts head disc ahead heap is =
    turn_there fonts head head (AtDisc disc ahead) (whole_disc disc ahead) heap (ap (λ o. at_disc fonts head disc o ahead heap) (sym is) ∙ no_last head disc ahead (lig_between fonts heap None (slice_get ahead 0)) heap)

pub stays_out_next : (fonts : List FontTables) (head disc : ℕ) (ahead : List ℕ) (heap : Heap) → ahead ≡ [] → RunsOn fonts head (AtDisc disc ahead ∷ []) heap head (after_absorbing false disc ahead) heap
stays_out_next fonts head disc ahead heap is =
    subst (λ (xs : List ℕ). RunsOn fonts head (AtDisc disc xs ∷ []) heap head (after_absorbing false disc xs) heap) (sym is)
    (let last = last_of (part_at heap disc Replace) in turn_there fonts head head (AtDisc disc []) (whole_disc disc []) heap (no_next head disc last (lig_between fonts heap last None) heap))

pub stays_out_lig : (fonts : List FontTables) (head disc last : ℕ) (ahead : List ℕ) (heap : Heap) → Some last ≡ last_of (part_at heap disc Replace) → None ≡ lig_between fonts heap (Some last) (slice_get ahead 0)
    → RunsOn fonts head (AtDisc disc ahead ∷ []) heap head (after_absorbing false disc ahead) heap
stays_out_lig fonts head disc last ahead heap is none =
    turn_there fonts head head (AtDisc disc ahead) (whole_disc disc ahead) heap
    (ap (λ o. at_disc fonts head disc o ahead heap) (sym is) ∙ ap (λ o. disc_turn head disc (Some last) ahead o heap) (sym none) ∙ no_lig head disc (Some last) ahead heap)

-- ---- the next node comes in
abbrev then_part : ℕ → ℕ → List ℕ → Unit {0} → Heap → Trace Heap (ℕ × List Chore) Trouble
then_part head disc rest _ done = stays done (Ok (head, OfDisc disc Replace ∷ AtDisc disc rest ∷ []))

draws : (fonts : List FontTables) (head disc last y : ℕ) (lig : Lig) (ahead rest : List ℕ) (heap : Heap) → Some last ≡ last_of (part_at heap disc Replace) → Some lig ≡ lig_between fonts heap (Some last) (slice_get ahead 0) → ahead ≡ y ∷ rest
    → turn fonts head (AtDisc disc ahead) heap ≡ trace_and_then (drawn_after disc last y (slice_get rest 0) heap) (then_part head disc rest)
draws fonts head disc last y lig ahead rest heap is some e =
    ap (λ o. at_disc fonts head disc o ahead heap) (sym is) ∙ ap (λ o. disc_turn head disc (Some last) ahead o heap) (sym some) ∙ ap (λ (xs : List ℕ). disc_turn head disc (Some last) xs (Some lig) heap) e

pub draw_stops : (fonts : List FontTables) (head disc last y : ℕ) (lig : Lig) (ahead rest : List ℕ) (after : Option ℕ) (heap new : Heap) (e : Fail Trouble) → Some last ≡ last_of (part_at heap disc Replace) → Some lig ≡ lig_between fonts heap (Some last) (slice_get ahead 0)
    → ahead ≡ y ∷ rest → after ≡ slice_get rest 0 → EndsAs {A = Unit {0}} (Err e) new (drawn_after disc last y after heap) → RunsTo fonts head (AtDisc disc ahead ∷ []) heap e new
draw_stops fonts head disc last y lig ahead rest after heap new e is some split follows h =
    turn_stops fonts head (AtDisc disc ahead) heap new e
    (subst (EndsAs {A = ℕ × List Chore} (Err e) new) (sym (draws fonts head disc last y lig ahead rest heap is some split))
    (ends_there (drawn_after disc last y (slice_get rest 0) heap) new (then_part head disc rest) e (λ _ x. begins_stays x (Ok (head, OfDisc disc Replace ∷ AtDisc disc rest ∷ [])))
    (subst (λ o. EndsAs {A = Unit {0}} (Err e) new (drawn_after disc last y o heap)) follows h)))

pub draw_goes : (fonts : List FontTables) (head disc last y : ℕ) (lig : Lig) (ahead rest : List ℕ) (after : Option ℕ) (heap new : Heap) → Some last ≡ last_of (part_at heap disc Replace) → Some lig ≡ lig_between fonts heap (Some last) (slice_get ahead 0)
    → ahead ≡ y ∷ rest → after ≡ slice_get rest 0 → EndsAs (Ok tt) new (drawn_after disc last y after heap) → RunsOn fonts head (AtDisc disc ahead ∷ []) heap head (OfDisc disc Replace ∷ AtDisc disc rest ∷ []) new
draw_goes fonts head disc last y lig ahead rest after heap new is some split follows h =
    let left = OfDisc disc Replace ∷ AtDisc disc rest ∷ [] in
    turn_goes fonts head head (AtDisc disc ahead) left heap new
    (subst (EndsAs (Ok (head, left)) new) (sym (draws fonts head disc last y lig ahead rest heap is some split))
    (ends_later (drawn_after disc last y (slice_get rest 0) heap) tt new new (then_part head disc rest) (Ok (head, left)) (subst (λ o. EndsAs (Ok tt) new (drawn_after disc last y o heap)) follows h) (refl, refl)))

-- and then `replace` is gone through
pub drawn_in : (fonts : List FontTables) (head disc : ℕ) (ahead rest : List ℕ) (heap mid new : Heap) → RunsOn fonts head (AtDisc disc ahead ∷ []) heap head (OfDisc disc Replace ∷ AtDisc disc rest ∷ []) mid → RunsOn fonts head (OfDisc disc Replace ∷ []) mid head [] new
    → RunsOn fonts head (AtDisc disc ahead ∷ []) heap head (AtDisc disc rest ∷ []) new
drawn_in fonts head disc ahead rest heap mid new one two more r last k = one more r last (two (AtDisc disc rest ∷ more) r last k)

pub drawn_stops : (fonts : List FontTables) (head disc : ℕ) (ahead rest : List ℕ) (heap mid new : Heap) (e : Fail Trouble) → RunsOn fonts head (AtDisc disc ahead ∷ []) heap head (OfDisc disc Replace ∷ AtDisc disc rest ∷ []) mid → RunsTo fonts head (OfDisc disc Replace ∷ []) mid e new
    → RunsTo fonts head (AtDisc disc ahead ∷ []) heap e new
drawn_stops fonts head disc ahead rest heap mid new e one two more = one more (Err e) new (two (AtDisc disc rest ∷ more))
