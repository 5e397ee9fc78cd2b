-- How the whole pass ends: its list is read, and then its lines are made.
use Rattle.std.proofs.Common.{◌≡◌, ℕ, List, length, Some, Ok, Err, refl, ◌∙◌, ap, subst}
use Rattle.std.specs.Prelude.{Result, unwrap_or}
use Rattle.ntx_num.specs.Answer.{Answers, result_map, result_and_then}
use Rattle.ntx_num.specs.Trace.{Trace, stays, trace_and_then, EndsAs}
use Rattle.ntx_num.specs.declared.answer.Fail.{Fail}
use Rattle.ntx_num.specs.declared.answer.Fail.TheVariants.{NoMemory, Is}
use Rattle.ntx_num.proofs.Traces.{Begins, begins_then, ends_later, ends_there}
use Rattle.ntx_nodes.specs.Heap.{Heap}
use Rattle.ntx_nodes.specs.Walk.{flat_walk}
use Rattle.ntx_nodes.specs.declared.kind.ListKind.TheVariants.{H}
use Rattle.ntx_nodes.specs.declared.trouble.Trouble.{Trouble}
use Rattle.ntx_tfm.specs.Font.{FontTables}
use Rattle.ntx_item.specs.Settings.{Settings}
use Rattle.ntx_item.specs.declared.item.Item.{Item}
use Rattle.ntx_view.specs.View.{items_answer}
use Rattle.ntx_lines.specs.declared.above.Above.{Above}
use Rattle.ntx_lines.specs.Ends.{no_nodes}
use Rattle.ntx_lines.specs.Above.{nothing_above}
use Rattle.ntx_lines.specs.Parts.{parts_of}
use Rattle.ntx_lines.specs.Lines.{lines_made, paragraph, lines}
use Rattle.ntx_lines.proofs.Begins.{begins_given}
use Rattle.ntx_lines.proofs.BeginsLines.{begins_lines}
use Rattle.ntx_lines.proofs.Endings.{found_ends}

-- the pass after its list is read, and after its lines are made
abbrev counting : ℕ → List ℕ → Above → Heap → Trace Heap (ℕ × ℕ) Trouble
counting head places above new = stays new (Ok (unwrap_or above.first head, length places))

abbrev lining : List FontTables → Settings → ℕ → List ℕ → List Item × List ℕ → Heap → Trace Heap (ℕ × ℕ) Trouble
lining fonts s head places read heap = trace_and_then (lines_made fonts s nothing_above no_nodes (parts_of read.0 read.1 0 places) heap) (counting head places)

begins_counting : (head : ℕ) (places : List ℕ) (above : Above) (heap : Heap) → Begins (counting head places above heap) heap
begins_counting head places above heap = begins_given (unwrap_or above.first head, length places) heap

begins_lining : (fonts : List FontTables) (s : Settings) (head : ℕ) (places : List ℕ) (read : List Item × List ℕ) (heap : Heap) → Begins (lining fonts s head places read heap) heap
begins_lining fonts s head places read heap =
    begins_then (lines_made fonts s nothing_above no_nodes (parts_of read.0 read.1 0 places) heap) heap (counting head places) (begins_counting head places)
    (begins_lines fonts s nothing_above no_nodes (parts_of read.0 read.1 0 places) heap)

-- ---- the reading
abbrev pub IsItems : Result (List Item) (Fail Trouble) → List FontTables → ℕ → Heap → Type 0
IsItems r fonts head heap = Answers r (items_answer heap fonts (Some head) H)

abbrev pub IsNames : Result (List ℕ) (Fail Trouble) → ℕ → Heap → Type 0
IsNames r head heap = Answers r (flat_walk heap (Some head))

abbrev pairing : List Item → List ℕ → List Item × List ℕ
pairing items names = (items, names)

no_items : (fonts : List FontTables) (head : ℕ) (old : Heap) (e : Fail Trouble) → IsItems (Err e) fonts head old → Answers {A = List Item × List ℕ} (Err e) (paragraph old fonts head)
no_items fonts head old (Is why) a = ap (λ r. result_and_then r (λ items. result_map (pairing items) (flat_walk old (Some head)))) a
no_items fonts head old NoMemory a = tt

no_names : (fonts : List FontTables) (head : ℕ) (old : Heap) (items : List Item) (e : Fail Trouble) → IsItems (Ok items) fonts head old → IsNames (Err e) head old → Answers {A = List Item × List ℕ} (Err e) (paragraph old fonts head)
no_names fonts head old items (Is why) a b = ap (λ r. result_and_then r (λ items. result_map (pairing items) (flat_walk old (Some head)))) a ∙ ap (result_map (pairing items)) b
no_names fonts head old items NoMemory a b = tt

both_read : (fonts : List FontTables) (head : ℕ) (old : Heap) (items : List Item) (names : List ℕ) → IsItems (Ok items) fonts head old → IsNames (Ok names) head old → paragraph old fonts head ≡ Ok (items, names)
both_read fonts head old items names a b = ap (λ r. result_and_then r (λ items. result_map (pairing items) (flat_walk old (Some head)))) a ∙ ap (result_map (pairing items)) b

pub items_stop : (fonts : List FontTables) (s : Settings) (head : ℕ) (places : List ℕ) (old new : Heap) (e : Fail Trouble) → new ≡ old → IsItems (Err e) fonts head old → EndsAs {A = ℕ × ℕ} (Err e) new (lines fonts s head places old)
items_stop fonts s head places old new e same a =
    let read = paragraph old fonts head in
    ends_there (stays old read) new (lining fonts s head places) e (begins_lining fonts s head places) (found_ends (Err e) read old new (no_items fonts head old e a) same)

pub names_stop : (fonts : List FontTables) (s : Settings) (head : ℕ) (places : List ℕ) (old mid new : Heap) (items : List Item) (e : Fail Trouble) → mid ≡ old → IsItems (Ok items) fonts head old → new ≡ mid → IsNames (Err e) head mid
    → EndsAs {A = ℕ × ℕ} (Err e) new (lines fonts s head places old)
names_stop fonts s head places old mid new items e first a second b =
    let read = paragraph old fonts head in
    ends_there (stays old read) new (lining fonts s head places) e (begins_lining fonts s head places)
    (found_ends (Err e) read old new (no_names fonts head old items e a (subst (IsNames (Err e) head) first b)) (second ∙ first))

-- a list that is read
abbrev pub IsRead : List FontTables → ℕ → Heap → Heap → List Item → List ℕ → Type 0
IsRead fonts head old heap items names = EndsAs (Ok (items, names)) heap (stays old (paragraph old fonts head))

pub list_read : (fonts : List FontTables) (head : ℕ) (old mid new : Heap) (items : List Item) (names : List ℕ) → mid ≡ old → IsItems (Ok items) fonts head old → new ≡ mid → IsNames (Ok names) head mid → IsRead fonts head old new items names
list_read fonts head old mid new items names first a second b =
    found_ends (Ok (items, names)) (paragraph old fonts head) old new (both_read fonts head old items names a (subst (IsNames (Ok names) head) first b)) (second ∙ first)

-- ---- the lines
pub making_stops : (fonts : List FontTables) (s : Settings) (head : ℕ) (places : List ℕ) (old there new : Heap) (items : List Item) (names : List ℕ) (e : Fail Trouble) → IsRead fonts head old there items names
    → EndsAs {A = Above} (Err e) new (lines_made fonts s nothing_above no_nodes (parts_of items names 0 places) there) → EndsAs {A = ℕ × ℕ} (Err e) new (lines fonts s head places old)
making_stops fonts s head places old there new items names e read made =
    ends_later (stays old (paragraph old fonts head)) (items, names) there new (lining fonts s head places) (Err e) read
    (ends_there (lines_made fonts s nothing_above no_nodes (parts_of items names 0 places) there) new (counting head places) e (begins_counting head places) made)

pub all_made : (fonts : List FontTables) (s : Settings) (head : ℕ) (places : List ℕ) (old there new : Heap) (items : List Item) (names : List ℕ) (above : Above) → IsRead fonts head old there items names
    → EndsAs (Ok above) new (lines_made fonts s nothing_above no_nodes (parts_of items names 0 places) there) → EndsAs (Ok (unwrap_or above.first head, length places)) new (lines fonts s head places old)
all_made fonts s head places old there new items names above read made =
    let r : Result (ℕ × ℕ) (Fail Trouble) = Ok (unwrap_or above.first head, length places) in
    ends_later (stays old (paragraph old fonts head)) (items, names) there new (lining fonts s head places) r read
    (ends_later (lines_made fonts s nothing_above no_nodes (parts_of items names 0 places) there) above new new (counting head places) r made (refl, refl))
