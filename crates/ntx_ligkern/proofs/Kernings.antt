-- How a kern is made, and one kern after another, and how the pass over a list ends.
use Rattle.std.proofs.Common.{◌≡◌, ℕ, ◌+◌, ◌<◌, List, [], length, drop, get_or, Some, Ok, Err, inl, inr, refl, sym, ◌∙◌, ap, subst, arith}
use Rattle.std.specs.Prelude.{Result, All}
use Rattle.std.proofs.lemmas.List.Elements.{All-weaker}
use Rattle.ntx_num.specs.Answer.{result_map}
use Rattle.ntx_num.specs.declared.answer.Fail.{Fail}
use Rattle.ntx_num.specs.declared.answer.Fail.TheVariants.{NoMemory, Is}
use Rattle.ntx_num.proofs.Answers.{same_Err}
use Rattle.ntx_nodes.specs.Heap.{Heap}
use Rattle.ntx_nodes.specs.Walk.{checked_walk}
use Rattle.ntx_nodes.specs.Writing.{AreMakable}
use Rattle.ntx_nodes.specs.declared.kind.ListKind.TheVariants.{H}
use Rattle.ntx_nodes.specs.declared.trouble.Trouble.{Trouble}
use Rattle.ntx_nodes.proofs.Ranges.{makable_fields}
use Rattle.ntx_nodes.proofs.Writes.{taken_off}
use Rattle.ntx_lists.specs.MadeNodes.{made_and_linked, RefusesMakings, RefusesAs, KeepLinks}
use Rattle.ntx_lists.proofs.MadeLinks.{live_later}
use Rattle.ntx_lists.proofs.MadeNodes.{begins_linked}
use Rattle.ntx_tfm.specs.Font.{FontTables}
use Rattle.ntx_num.specs.Trace.{Trace, stays, trace_and_then, each_in_turn, EndsAs}
use Rattle.ntx_num.proofs.Traces.{Begins, begins_stays, begins_then, begins_each, passes_first, ends_later, ends_there, Goes, goes_on, goes_ended, goes_stopped}
use Rattle.ntx_ligkern.specs.Along.{along}
use Rattle.ntx_ligkern.specs.Kerns.{kerns_of}
use Rattle.ntx_ligkern.specs.Kerning.{kern_fields, kern_made, kerned_if, kerned_list}
use Rattle.ntx_ligkern.specs.inner.Sound.{IsWide, IsPlaced}
use Rattle.ntx_ligkern.specs.declared.place.Kerning.{Kerning}

-- ---- one kern
abbrev link_of : Kerning → Heap → Trace Heap ℕ Trouble
link_of k heap = made_and_linked (kern_fields k) k.left k.place.at k.place.field heap

pub begins_kern : (k : Kerning) (heap : Heap) → Begins (kern_made k heap) heap
begins_kern k heap = begins_then (link_of k heap) heap (λ _ made. stays made (Ok tt)) (λ _ made. begins_stays made (Ok tt)) (begins_linked (kern_fields k) k.left k.place.at k.place.field heap)

pub kern_stops : (k : Kerning) (old new : Heap) (e : Fail Trouble) → EndsAs {A = ℕ} (Err e) new (link_of k old) → EndsAs {A = Unit {0}} (Err e) new (kern_made k old)
kern_stops k old new e h = ends_there (link_of k old) new (λ _ made. stays made (Ok tt)) e (λ _ made. begins_stays made (Ok tt)) h

pub kern_done : (k : Kerning) (old new : Heap) (n : ℕ) → EndsAs (Ok n) new (link_of k old) → EndsAs (Ok tt) new (kern_made k old)
kern_done k old new n h = ends_later (link_of k old) n new new (λ _ made. stays made (Ok tt)) (Ok tt) h (refl, refl)

-- what a kern that can be made may have in its fields
pub kern_makable : (heap : Heap) (k : Kerning) → IsWide k → IsPlaced heap k → AreMakable heap (kern_fields k)
kern_makable heap k wide placed = makable_fields heap (kern_fields k) (record { subtype = omega arith; link = placed.next; contents = wide })

-- ---- one kern after another
pub next_kern : (kerns : List Kerning) (old now new : Heap) (i : ℕ) (d : Kerning) → i < length kerns → Goes kern_made kerns old (drop i kerns) now → EndsAs (Ok tt) new (kern_made (get_or kerns i d) now) → Goes kern_made kerns old (drop (i + 1) kerns) new
next_kern kerns old now new i d lt g e = goes_on kern_made kerns (drop (i + 1) kerns) (get_or kerns i d) old now new (subst (λ x. Goes kern_made kerns old x now) (taken_off i kerns d lt) g) e

pub next_stops : (kerns : List Kerning) (old now new : Heap) (i : ℕ) (d : Kerning) (e : Fail Trouble) → i < length kerns → Goes kern_made kerns old (drop i kerns) now → EndsAs {A = Unit {0}} (Err e) new (kern_made (get_or kerns i d) now)
    → EndsAs {A = Unit {0}} (Err e) new (each_in_turn kern_made kerns old)
next_stops kerns old now new i d e lt g stops =
    goes_stopped kern_made kerns (drop (i + 1) kerns) (get_or kerns i d) old now new e begins_kern (subst (λ x. Goes kern_made kerns old x now) (taken_off i kerns d lt) g) stops

pub kerns_done : (kerns left : List Kerning) (old now : Heap) → left ≡ [] → Goes kern_made kerns old left now → EndsAs (Ok tt) now (each_in_turn kern_made kerns old)
kerns_done kerns left old now none g = goes_ended kern_made kerns old now (subst (λ x. Goes kern_made kerns old x now) none g)

pub placed_later : (old new : Heap) (kerns : List Kerning) → KeepLinks old new → All (IsPlaced old) kerns → All (IsPlaced new) kerns
placed_later old new kerns keep h =
    let alive = live_later old new keep in
    All-weaker (IsPlaced old) (IsPlaced new) (λ k p. record { left = alive k.left p.left; next = λ n e. alive n (p.next n e); link = keep k.place.at k.place.field p.link }) kerns h

-- ---- the pass
abbrev kerning_of : List FontTables → ℕ → Heap → Trace Heap (Unit {0}) Trouble
kerning_of fonts head heap = each_in_turn kern_made (kerns_of fonts heap (along heap (Some head))) heap

begins_if : (fonts : List FontTables) (head : ℕ) (r : Result (List ℕ) Trouble) (heap : Heap) → Begins (kerned_if fonts head r heap) heap
begins_if fonts head (Err why) heap = begins_stays heap (Err why)
begins_if fonts head (Ok names) heap =
    begins_then (kerning_of fonts head heap) heap (λ _ last. stays last (Ok head)) (λ _ last. begins_stays last (Ok head)) (begins_each kern_made (kerns_of fonts heap (along heap (Some head))) heap begins_kern)

-- memory runs out before anything is made
pub memory_stops : (fonts : List FontTables) (head : ℕ) (heap new : Heap) → new ≡ heap → EndsAs {A = ℕ} (Err NoMemory) new (kerned_list fonts head heap)
memory_stops fonts head heap new same =
    subst (λ h. EndsAs {A = ℕ} (Err NoMemory) h (kerned_list fonts head heap)) (sym same) (passes_first (kerned_list fonts head heap) heap (begins_if fonts head (checked_walk heap (Some head) H) heap))

-- what the walk that checks the list answers
err_of : (r : Result (List ℕ) Trouble) (why : Trouble) → ◌≡◌ {A = Result (Unit {0}) Trouble} (Err why) (result_map (λ _. tt) r) → r ≡ Err why
err_of (Ok a) why is = cc
err_of (Err x) why is = ap Err (same_Err {A = Unit {0}} x why (sym is))

ok_of : (r : Result (List ℕ) Trouble) → ◌≡◌ {A = Result (Unit {0}) Trouble} (Ok tt) (result_map (λ _. tt) r) → (names : List ℕ) × (r ≡ Ok names)
ok_of (Ok names) is = (names, refl)
ok_of (Err x) is = cc

pub walk_refused : (heap : Heap) (head : ℕ) (why : Trouble) → ◌≡◌ {A = Result (Unit {0}) Trouble} (Err why) (result_map (λ _. tt) (checked_walk heap (Some head) H)) → checked_walk heap (Some head) H ≡ Err why
walk_refused heap head why is = err_of (checked_walk heap (Some head) H) why is

pub check_stops : (fonts : List FontTables) (head : ℕ) (heap new : Heap) (why : Trouble) → new ≡ heap → ◌≡◌ {A = Result (Unit {0}) Trouble} (Err why) (result_map (λ _. tt) (checked_walk heap (Some head) H)) → EndsAs {A = ℕ} (Err (Is why)) new (kerned_list fonts head heap)
check_stops fonts head heap new why same is =
    let e = walk_refused heap head why is in
    (ap (λ r. (kerned_if fonts head r heap).ending) e, ap (λ r. (kerned_if fonts head r heap).last) e ∙ sym same)

-- the pass, where the list passes its check
checked : (fonts : List FontTables) (head : ℕ) (heap mid : Heap) (kerns : List Kerning) → mid ≡ heap → ◌≡◌ {A = Result (Unit {0}) Trouble} (Ok tt) (result_map (λ _. tt) (checked_walk heap (Some head) H)) → kerns ≡ kerns_of fonts mid (along mid (Some head))
    → trace_and_then (each_in_turn kern_made kerns mid) (λ _ last. stays last (Ok head)) ≡ kerned_list fonts head heap
checked fonts head heap mid kerns same is found =
    let went = ok_of (checked_walk heap (Some head) H) is in
    ap (λ ks. trace_and_then (each_in_turn kern_made ks mid) (λ _ last. stays last (Ok head))) found
    ∙ ap (λ h. trace_and_then (kerning_of fonts head h) (λ _ last. stays last (Ok head))) same
    ∙ ap (λ r. kerned_if fonts head r heap) (sym went.1)

pub kerns_stop : (fonts : List FontTables) (head : ℕ) (heap mid new : Heap) (kerns : List Kerning) (e : Fail Trouble) → mid ≡ heap → ◌≡◌ {A = Result (Unit {0}) Trouble} (Ok tt) (result_map (λ _. tt) (checked_walk heap (Some head) H))
    → kerns ≡ kerns_of fonts mid (along mid (Some head)) → EndsAs {A = Unit {0}} (Err e) new (each_in_turn kern_made kerns mid) → EndsAs {A = ℕ} (Err e) new (kerned_list fonts head heap)
kerns_stop fonts head heap mid new kerns e same is found stops =
    subst (EndsAs {A = ℕ} (Err e) new) (checked fonts head heap mid kerns same is found) (ends_there (each_in_turn kern_made kerns mid) new (λ _ last. stays last (Ok head)) e (λ _ last. begins_stays last (Ok head)) stops)

pub kerns_made : (fonts : List FontTables) (head : ℕ) (heap mid new : Heap) (kerns : List Kerning) → mid ≡ heap → ◌≡◌ {A = Result (Unit {0}) Trouble} (Ok tt) (result_map (λ _. tt) (checked_walk heap (Some head) H))
    → kerns ≡ kerns_of fonts mid (along mid (Some head)) → EndsAs (Ok tt) new (each_in_turn kern_made kerns mid) → EndsAs (Ok head) new (kerned_list fonts head heap)
kerns_made fonts head heap mid new kerns same is found ends =
    subst (EndsAs (Ok head) new) (checked fonts head heap mid kerns same is found) (ends_later (each_in_turn kern_made kerns mid) tt new new (λ _ last. stays last (Ok head)) (Ok head) ends (refl, refl))

-- ---- refusals
pub check_refuses : (heap : Heap) (head : ℕ) (why : Trouble) → ◌≡◌ {A = Result (Unit {0}) Trouble} (Err why) (result_map (λ _. tt) (checked_walk heap (Some head) H)) → RefusesAs {A = ℕ} heap head (Err (Is why))
check_refuses heap head why is = inl (walk_refused heap head why is)

pub kerns_refuse : (heap : Heap) (head : ℕ) (e : Fail Trouble) → RefusesMakings {A = Unit {0}} (Err e) → RefusesAs {A = ℕ} heap head (Err e)
kerns_refuse heap head (Is why) m = inr m
kerns_refuse heap head NoMemory m = tt
