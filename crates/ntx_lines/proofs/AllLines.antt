-- How the lines of a paragraph end, one after another.
use Rattle.std.proofs.Common.{◌≡◌, ℕ, Option, zero, suc, ◌+◌, ◌-◌, ◌<◌, List, [], ◌∷◌, length, drop, get_or, Ok, Err, refl, sym, ◌∙◌, ap, subst, arith}
use Rattle.std.specs.Prelude.{Result, slice_get}
use Rattle.std.proofs.lemmas.List.{length-drop}
use Rattle.ntx_num.specs.Trace.{EndsAs}
use Rattle.ntx_num.specs.declared.answer.Fail.{Fail}
use Rattle.ntx_num.proofs.Traces.{ends_later, ends_there}
use Rattle.ntx_nodes.specs.Heap.{Heap}
use Rattle.ntx_nodes.specs.declared.trouble.Trouble.{Trouble}
use Rattle.ntx_nodes.proofs.Writes.{taken_off}
use Rattle.ntx_tfm.specs.Font.{FontTables}
use Rattle.ntx_item.specs.Settings.{Settings}
use Rattle.ntx_item.specs.declared.item.Item.{Item}
use Rattle.ntx_lines.specs.declared.above.Above.{Above}
use Rattle.ntx_lines.specs.declared.ends.Ends.{Ends}
use Rattle.ntx_lines.specs.Ends.{no_nodes}
use Rattle.ntx_lines.specs.Above.{nothing_above}
use Rattle.ntx_lines.specs.Parts.{Part, part_of, parts_of}
use Rattle.ntx_lines.specs.Lines.{line_made, lines_made}
use Rattle.ntx_lines.proofs.BeginsLines.{going_on, begins_lines}

-- ---- the places that are left
get_dropped : (places : List ℕ) (k : ℕ) → slice_get (drop k places) 0 ≡ slice_get places k
get_dropped places zero = refl
get_dropped [] (suc k) = refl
get_dropped (p ∷ ps) (suc k) = get_dropped ps k

parts_count : (items : List Item) (names : List ℕ) (from : ℕ) (places : List ℕ) → length (parts_of items names from places) ≡ length places
parts_count items names from [] = refl
parts_count items names from (to ∷ later) = ap suc (parts_count items names to later)

left_count : (items : List Item) (names : List ℕ) (to : ℕ) (places : List ℕ) (i : ℕ) → (length places - i) - 1 ≡ length (parts_of items names to (drop (i + 1) places))
left_count items names to places i =
    let one : (length places - i) - 1 ≡ length places - (i + 1) = omega arith in one ∙ sym (length-drop (i + 1) places) ∙ sym (parts_count items names to (drop (i + 1) places))

-- ---- what is left of the pass: however it ends, the whole pass ends so
abbrev pub Going : List FontTables → Settings → List Item → List ℕ → List ℕ → Heap → Above → Ends → ℕ → ℕ → Heap → Type 0
Going fonts s items names places old above front from i now =
    (r : Result Above (Fail Trouble)) (new : Heap) → EndsAs r new (lines_made fonts s above front (parts_of items names from (drop i places)) now)
    → EndsAs r new (lines_made fonts s nothing_above no_nodes (parts_of items names 0 places) old)

pub going_begun : (fonts : List FontTables) (s : Settings) (items : List Item) (names places : List ℕ) (old : Heap) (above : Above) (front : Ends) → above ≡ nothing_above → front ≡ no_nodes → Going fonts s items names places old above front 0 0 old
going_begun fonts s items names places old above front p q r new e =
    subst (λ (f : Ends). EndsAs r new (lines_made fonts s nothing_above f (parts_of items names 0 places) old)) q
    (subst (λ (a : Above). EndsAs r new (lines_made fonts s a front (parts_of items names 0 places) old)) p e)

-- a part before a place that is known
pub part_so : (items : List Item) (names : List ℕ) (from to : ℕ) (o next : Option ℕ) (part : Part) → part ≡ part_of items names from to o → o ≡ next → part ≡ part_of items names from to next
part_so items names from to o next part e same = e ∙ ap (part_of items names from to) same

-- the line at a place
abbrev pub Lined : Result (Above × Ends) (Fail Trouble) → List FontTables → Settings → List Item → List ℕ → List ℕ → Above → Ends → ℕ → ℕ → ℕ → Heap → Heap → Type 0
Lined r fonts s items names places above front from i to now new =
    EndsAs r new (line_made fonts s above front (part_of items names from to (slice_get places (i + 1))) ((length places - i) - 1) now)

-- the same with the places that are left
lined_on : (r : Result (Above × Ends) (Fail Trouble)) (fonts : List FontTables) (s : Settings) (items : List Item) (names places : List ℕ) (above : Above) (front : Ends) (from i to : ℕ) (now new : Heap)
    → Lined r fonts s items names places above front from i to now new
    → EndsAs r new (line_made fonts s above front (part_of items names from to (slice_get (drop (i + 1) places) 0)) (length (parts_of items names to (drop (i + 1) places))) now)
lined_on r fonts s items names places above front from i to now new e =
    subst (λ k. EndsAs r new (line_made fonts s above front (part_of items names from to (slice_get (drop (i + 1) places) 0)) k now)) (left_count items names to places i)
    (subst (λ o. EndsAs r new (line_made fonts s above front (part_of items names from to o) ((length places - i) - 1) now)) (sym (get_dropped places (i + 1))) e)

pub next_line : (fonts : List FontTables) (s : Settings) (items : List Item) (names places : List ℕ) (old : Heap) (above : Above) (front : Ends) (from i d : ℕ) (now new : Heap) (done : Above × Ends) → i < length places
    → Going fonts s items names places old above front from i now → Lined (Ok done) fonts s items names places above front from i (get_or places i d) now new
    → Going fonts s items names places old done.0 done.1 (get_or places i d) (i + 1) new
next_line fonts s items names places old above front from i d now new done lt g line r end e =
    let to = get_or places i d in
    let rest : List Part = parts_of items names to (drop (i + 1) places) in
    let p : Part = part_of items names from to (slice_get (drop (i + 1) places) 0) in
    g r end (subst (λ ps. EndsAs r end (lines_made fonts s above front (parts_of items names from ps) now)) (sym (taken_off i places d lt))
    (ends_later (line_made fonts s above front p (length rest) now) done new end (going_on fonts s rest) r (lined_on (Ok done) fonts s items names places above front from i to now new line) e))

pub line_stops : (fonts : List FontTables) (s : Settings) (items : List Item) (names places : List ℕ) (old : Heap) (above : Above) (front : Ends) (from i d : ℕ) (now new : Heap) (e : Fail Trouble) → i < length places
    → Going fonts s items names places old above front from i now → Lined (Err e) fonts s items names places above front from i (get_or places i d) now new
    → EndsAs {A = Above} (Err e) new (lines_made fonts s nothing_above no_nodes (parts_of items names 0 places) old)
line_stops fonts s items names places old above front from i d now new e lt g line =
    let to = get_or places i d in
    let rest : List Part = parts_of items names to (drop (i + 1) places) in
    let p : Part = part_of items names from to (slice_get (drop (i + 1) places) 0) in
    g (Err e) new (subst (λ ps. EndsAs {A = Above} (Err e) new (lines_made fonts s above front (parts_of items names from ps) now)) (sym (taken_off i places d lt))
    (ends_there (line_made fonts s above front p (length rest) now) new (going_on fonts s rest) e (λ done h. begins_lines fonts s done.0 done.1 rest h) (lined_on (Err e) fonts s items names places above front from i to now new line)))

pub lines_done : (fonts : List FontTables) (s : Settings) (items : List Item) (names places : List ℕ) (old : Heap) (above : Above) (front : Ends) (from i : ℕ) (now : Heap) → drop i places ≡ [] → Going fonts s items names places old above front from i now
    → EndsAs (Ok above) now (lines_made fonts s nothing_above no_nodes (parts_of items names 0 places) old)
lines_done fonts s items names places old above front from i now none g =
    g (Ok above) now (subst (λ ps. EndsAs (Ok above) now (lines_made fonts s above front (parts_of items names from ps) now)) (sym none) (refl, refl))
