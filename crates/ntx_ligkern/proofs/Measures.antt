-- Each turn leaves less to do: names rise, or nodes ahead go, or steps are counted.
use Rattle.std.proofs.Common.{◌≡◌, ℕ, ◌+◌, ◌-◌, ◌*◌, ◌<◌, ◌≤◌, Bool, true, false, if◌then◌else◌, List, [], ◌∷◌, reverse, length, slice_get, pos, Some, None, Ok, Err, refl, sym, ◌∙◌, ap, subst, arith}
use Rattle.std.specs.Prelude.{Option, Result, nat_le, IfSome}
use Rattle.std.proofs.lemmas.List.{length-reverse}
use Rattle.std.proofs.lemmas.Bool.Decides.{nat_tests}
use Rattle.ntx_num.specs.Trace.{Trace, stays, on_ending, trace_and_then, EndsAs}
use Rattle.ntx_num.proofs.Answers.{same_Ok}
use Rattle.ntx_nodes.specs.Heap.{Heap, name_limit}
use Rattle.ntx_nodes.specs.declared.contents.DiscFields.{DiscFields}
use Rattle.ntx_nodes.specs.declared.field.Field.{Field}
use Rattle.ntx_nodes.specs.declared.field.Field.TheVariants.{Subtype, Next, Char, Pre, Post, Replace}
use Rattle.ntx_nodes.specs.declared.field.FieldValue.TheVariants.{Number, Link}
use Rattle.ntx_nodes.specs.declared.trouble.Trouble.{Trouble}
use Rattle.ntx_nodes.specs.declared.trouble.Trouble.TheVariants.{LigLoop}
use Rattle.ntx_tfm.specs.Font.{FontTables}
use Rattle.ntx_ligkern.specs.Kerns.{last_of}
use Rattle.ntx_ligkern.specs.Ligatures.{Spot, spot_in, moved_on, passes_over, keeps_left, keeps_right, set_to, linked, put_in, copied, turned, replaced, placed, inserted, put_lig, let_die, freed, let_go, joined, result_of, spot_after, ligated, lig_between}
use Rattle.ntx_ligkern.specs.Ligaturing.{part_at, copied_into, linked_from, moved_in, drawn_before, copied_to_post, moved_back, drawn_after, step_in_part, part_turn}
use Rattle.ntx_ligkern.specs.declared.lig.Lig.{Lig}
use Rattle.ntx_ligkern.specs.declared.cursor.Cursor.{Cursor}
use Rattle.ntx_ligkern.specs.inner.Cursors.{spot_of, spot_from}
use Rattle.ntx_ligkern.specs.inner.Chores.{left_from}
use Rattle.ntx_ligkern.proofs.Ahead.{spot_length, passed_length}
use Rattle.ntx_ligkern.proofs.Rises.{Rises, rises_stays, rises_then, rises_if, rises_set, rises_free, rises_copy}

-- ---- where the next name rises
rises_link : (n : ℕ) (f : Field) (to : Option ℕ) (heap : Heap) → Rises 0 (linked n f to heap) heap
rises_link n f to heap = rises_set n f (Link to) heap

rises_put : (new n : ℕ) (f : Field) (next : Option ℕ) (heap : Heap) → Rises 0 (put_in new n f next heap) heap
rises_put new n f next heap = rises_then heap 0 0 (linked new Next next heap) (λ _ kept. linked n f (Some new) kept) (rises_link new Next next heap) (λ _ h. rises_link n f (Some new) h)

rises_turned : (n code : ℕ) (heap : Heap) → Rises 0 (turned n code heap) heap
rises_turned n code heap =
    rises_then heap 0 0 (set_to n Char (Number (pos code)) heap) (λ _ coded. set_to n Subtype (Number (pos 2)) coded) (rises_set n Char (Number (pos code)) heap) (λ _ h. rises_set n Subtype (Number (pos 2)) h)

rises_replaced : (x code : ℕ) (heap : Heap) → Rises 0 (replaced x code heap) heap
rises_replaced x code heap = rises_then heap 0 0 (turned x code heap) (λ _ done. stays done (Ok x)) (rises_turned x code heap) (λ _ h. rises_stays h (Ok x))

rises_placed : (new x code y : ℕ) (heap : Heap) → Rises 0 (placed new x code y heap) heap
rises_placed new x code y heap =
    rises_then heap 0 0 (turned new code heap) (λ _ named. trace_and_then (put_in new x Next (Some y) named) (λ _ done. stays done (Ok new))) (rises_turned new code heap)
    (λ _ h. rises_then h 0 0 (put_in new x Next (Some y) h) (λ _ done. stays done (Ok new)) (rises_put new x Next (Some y) h) (λ _ i. rises_stays i (Ok new)))

rises_inserted : (x code y : ℕ) (heap : Heap) → Rises 1 (inserted x code y heap) heap
rises_inserted x code y heap = rises_then heap 1 0 (copied x heap) (λ new made. placed new x code y made) (rises_copy x heap) (λ new h. rises_placed new x code y h)

lower : {A : Type 0} (t : Trace Heap A Trouble) (heap : Heap) → Rises 1 t heap → Rises 0 t heap
lower t heap h a e = let more : heap.next + 1 ≤ t.last.next = h a e in omega arith

rises_lig : (x : ℕ) (lig : Lig) (y : ℕ) (heap : Heap) → Rises 0 (put_lig x lig y heap) heap
rises_lig x lig y heap = rises_if heap 0 (keeps_left lig) (inserted x lig.code y heap) (replaced x lig.code heap) (lower (inserted x lig.code y heap) heap (rises_inserted x lig.code y heap)) (rises_replaced x lig.code heap)

makes_lig : (x : ℕ) (lig : Lig) (y : ℕ) (heap : Heap) → keeps_left lig ≡ true → Rises 1 (put_lig x lig y heap) heap
makes_lig x lig y heap e = subst (λ b. Rises 1 (if b then inserted x lig.code y heap else replaced x lig.code heap) heap) (sym e) (rises_inserted x lig.code y heap)

rises_let_go : (lig : Lig) (holder y : ℕ) (next : Option ℕ) (heap : Heap) → Rises 0 (let_go lig holder y next heap) heap
rises_let_go lig holder y next heap =
    rises_if heap 0 (keeps_right lig) (stays heap (Ok tt)) (freed holder y next heap) (rises_stays heap (Ok tt))
    (rises_then heap 0 0 (linked holder Next next heap) (λ _ unlinked. let_die y unlinked) (rises_link holder Next next heap) (λ _ h. rises_free y h))

rises_go_by : (lig : Lig) (y : ℕ) (next : Option ℕ) (holder : ℕ) (heap : Heap) → Rises 0 (trace_and_then (let_go lig holder y next heap) (λ _ done. stays done (Ok holder))) heap
rises_go_by lig y next holder heap = rises_then heap 0 0 (let_go lig holder y next heap) (λ _ done. stays done (Ok holder)) (rises_let_go lig holder y next heap) (λ _ h. rises_stays h (Ok holder))

rises_joined : (x : ℕ) (lig : Lig) (y : ℕ) (next : Option ℕ) (heap : Heap) → Rises 0 (joined x lig y next heap) heap
rises_joined x lig y next heap =
    rises_then heap 0 0 (put_lig x lig y heap) (λ holder made. trace_and_then (let_go lig holder y next made) (λ _ done. stays done (Ok holder))) (rises_lig x lig y heap) (λ holder h. rises_go_by lig y next holder h)

makes_joined : (x : ℕ) (lig : Lig) (y : ℕ) (next : Option ℕ) (heap : Heap) → keeps_left lig ≡ true → Rises 1 (joined x lig y next heap) heap
makes_joined x lig y next heap e =
    rises_then heap 1 0 (put_lig x lig y heap) (λ holder made. trace_and_then (let_go lig holder y next made) (λ _ done. stays done (Ok holder))) (makes_lig x lig y heap e) (λ holder h. rises_go_by lig y next holder h)

-- ---- discretionaries
rises_copied : (n at : ℕ) (f : Field) (next : Option ℕ) (heap : Heap) → Rises 0 (copied_into n at f next heap) heap
rises_copied n at f next heap =
    lower (copied_into n at f next heap) heap (rises_then heap 1 0 (copied n heap) (λ copy made. put_in copy at f next made) (rises_copy n heap) (λ copy h. rises_put copy at f next h))

rises_from : (before : Option ℕ) (n : ℕ) (heap : Heap) → Rises 0 (linked_from before n heap) heap
rises_from None n heap = rises_stays heap (Ok tt)
rises_from (Some before) n heap = rises_link before Next (Some n) heap

pub rises_before : (before : Option ℕ) (x disc : ℕ) (d : DiscFields) (heap : Heap) → Rises 0 (drawn_before before x disc d heap) heap
rises_before before x disc d heap =
    rises_then heap 0 0 (copied_into x disc Pre d.pre heap) (λ _ made. moved_in before x disc d made) (rises_copied x disc Pre d.pre heap)
    (λ _ h. rises_then h 0 0 (linked_from before disc h) (λ _ out. put_in x disc Replace d.replace out) (rises_from before disc h) (λ _ i. rises_put x disc Replace d.replace i))

rises_post : (y disc : ℕ) (end : Option ℕ) (heap : Heap) → Rises 0 (copied_to_post y disc end heap) heap
rises_post y disc None heap = rises_copied y disc Post None heap
rises_post y disc (Some last) heap = rises_copied y last Next None heap

pub rises_after : (disc last y : ℕ) (next : Option ℕ) (heap : Heap) → Rises 0 (drawn_after disc last y next heap) heap
rises_after disc last y next heap =
    rises_then heap 0 0 (copied_to_post y disc (last_of (part_at heap disc Post)) heap) (λ _ made. moved_back disc last y next made) (rises_post y disc (last_of (part_at heap disc Post)) heap)
    (λ _ h. rises_then h 0 0 (linked disc Next next h) (λ _ out. put_in y last Next None out) (rises_link disc Next next h) (λ _ i. rises_put y last Next None i))

-- a call that goes through such a trace
pub risen : {A : Type 0} (t : Trace Heap A Trouble) (a : A) (heap new : Heap) → Rises 0 t heap → EndsAs (Ok a) new t → heap.next ≤ new.next
risen t a heap new h e =
    let more : heap.next + 0 ≤ t.last.next = h a e.0 in
    let same : t.last.next ≡ new.next = ap (λ (x : Heap). x.next) e.1 in
    omega arith

-- ---- numbers
less_made : (limit old new a b c k : ℕ) → new ≤ limit → old + 1 ≤ new → b ≤ a + 1 → 1 + ((limit - new) * 1024 + b * 256 + (255 - k)) < 1 + ((limit - old) * 1024 + a * 256 + (255 - c))
less_made limit old new a b c k h i j = omega arith

less_kept : (limit old new a b c k : ℕ) → old ≤ new → b ≤ a → c < 255 → k ≡ c + 1 → 1 + ((limit - new) * 1024 + b * 256 + (255 - k)) < 1 + ((limit - old) * 1024 + a * 256 + (255 - c))
less_kept limit old new a b c k h i j l = omega arith

less_moved : (limit old new a b c : ℕ) → old ≤ new → b < a → 1 + ((limit - new) * 1024 + b * 256 + (255 - 0)) < 1 + ((limit - old) * 1024 + a * 256 + (255 - c))
less_moved limit old new a b c h i = omega arith

-- ---- a step
pub record Went {A B : Type 0} (r : Result A Trouble) (last : Heap) (f : A → Heap → Trace Heap B Trouble) (b : B) (new : Heap) : Type 0 where
  pub value : A
  pub is : r ≡ Ok value
  pub ends : EndsAs (Ok b) new (f value last)

pub went : {A B : Type 0} (earlier : List Heap) (last : Heap) (r : Result A Trouble) (f : A → Heap → Trace Heap B Trouble) (b : B) (new : Heap) → EndsAs (Ok b) new (on_ending earlier last r f) → Went r last f b new
went earlier last (Ok a) f b new e = record { value = a; is = refl; ends = (e.0, e.1) }
went earlier last (Err x) f b new e = let no = e.0 in cc

-- the count is below, or the step is refused
not_looped : (c : Bool) (heap new : Heap) (t : Trace Heap (Option Spot) Trouble) (next : Option Spot) → EndsAs (Ok next) new (if c then stays heap (Err LigLoop) else t) → (c ≡ false) × EndsAs (Ok next) new t
not_looped true heap new t next e = let no = e.0 in cc
not_looped false heap new t next e = (refl, e)

few : (count : ℕ) → nat_le 255 count ≡ false → count < 255
few count e = grind (arith, nat_tests)

-- how many nodes are ahead after a step
long : (kl kr : Bool) (x holder y : ℕ) (rest : List ℕ) → length (x ∷ (if kl then holder ∷ (if kr then y ∷ rest else rest) else (if kr then y ∷ rest else rest))) ≤ length rest + 1 + 1 + (if kl then 1 else 0)
long true true x holder y rest = omega arith
long true false x holder y rest = omega arith
long false true x holder y rest = omega arith
long false false x holder y rest = omega arith

-- a step with a made node, or without
step_to : (kl : Bool) (spot next : Spot) (y : ℕ) (rest : List ℕ) (heap new : Heap) → spot.ahead ≡ y ∷ rest → spot.count < 255 → next.count ≡ spot.count + 1 → length next.ahead + 1 ≤ length rest + 1 + 1 + (if kl then 1 else 0) → new.next ≤ name_limit → heap.next ≤ new.next
    → (kl ≡ true → heap.next + 1 ≤ new.next) → left_from new (Some next) < left_from heap (Some spot)
step_to true spot next y rest heap new is low count short below risen rose =
    let all : length spot.ahead ≡ length rest + 1 = ap length is ∙ omega arith in
    less_made name_limit heap.next new.next (length spot.ahead) (length next.ahead) spot.count next.count below (rose refl) (omega (arith, short, all))
step_to false spot next y rest heap new is low count short below risen rose =
    let all : length spot.ahead ≡ length rest + 1 = ap length is ∙ omega arith in
    less_kept name_limit heap.next new.next (length spot.ahead) (length next.ahead) spot.count next.count risen (omega (arith, short, all)) low count

-- the machine's words for it
step_ahead : (spot : Spot) (lig : Lig) (holder y : ℕ) (rest : List ℕ) (next : Spot) → spot_after spot lig holder y rest ≡ Some next → (length next.ahead + 1 ≤ length rest + 1 + 1 + (if keeps_left lig then 1 else 0)) × (next.count ≡ spot.count + 1)
step_ahead spot lig holder y rest next e =
    let p = passed_length (passes_over lig) spot.before (spot.count + 1) (result_of lig spot.at holder y rest) next e in
    let short = p.0 in
    let all = long (keeps_left lig) (keeps_right lig) spot.at holder y rest in
    (omega arith, p.1)

nothing_left : (heap new : Heap) (spot : Spot) → left_from new None < left_from heap (Some spot)
nothing_left heap new spot = omega arith

step_next : (spot : Spot) (lig : Lig) (holder y : ℕ) (rest : List ℕ) (next : Option Spot) (heap new : Heap) → spot_after spot lig holder y rest ≡ next → spot.ahead ≡ y ∷ rest → spot.count < 255 → new.next ≤ name_limit → heap.next ≤ new.next
    → (keeps_left lig ≡ true → heap.next + 1 ≤ new.next) → left_from new next < left_from heap (Some spot)
step_next spot lig holder y rest None heap new e is low below risen rose = nothing_left heap new spot
step_next spot lig holder y rest (Some next) heap new e is low below risen rose =
    let p = step_ahead spot lig holder y rest next e in
    step_to (keeps_left lig) spot next y rest heap new is low p.1 p.0 below risen rose

abbrev then_go : Spot → Lig → ℕ → List ℕ → ℕ → Heap → Trace Heap (Option Spot) Trouble
then_go spot lig y rest holder done = stays done (Ok (spot_after spot lig holder y rest))

pub step_less : (spot : Spot) (lig : Lig) (y : ℕ) (rest : List ℕ) (heap new : Heap) (next : Option Spot) → spot.ahead ≡ y ∷ rest → EndsAs (Ok next) new (ligated spot lig y rest heap) → new.next ≤ name_limit → (left_from new next < left_from heap (Some spot)) × (heap.next ≤ new.next)
step_less spot lig y rest heap new next is e below =
    let t = joined spot.at lig y (slice_get rest 0) heap in
    let n = not_looped (nat_le 255 spot.count) heap new (trace_and_then t (then_go spot lig y rest)) next e in
    let w = went t.earlier t.last t.ending (then_go spot lig y rest) next new n.1 in
    let to : spot_after spot lig w.value y rest ≡ next = same_Ok {E = Trouble} (spot_after spot lig w.value y rest) next w.ends.0 in
    let end : EndsAs (Ok w.value) new t = (w.is, w.ends.1) in
    let rises : heap.next ≤ new.next = risen t w.value heap new (rises_joined spot.at lig y (slice_get rest 0) heap) end in
    let rose : keeps_left lig ≡ true → heap.next + 1 ≤ new.next = λ k. let more : heap.next + 1 ≤ t.last.next = makes_joined spot.at lig y (slice_get rest 0) heap k w.value w.is in let same : t.last.next ≡ new.next = ap (λ (x : Heap). x.next) w.ends.1 in omega arith in
    (step_next spot lig w.value y rest next heap new to is (few spot.count n.0) below rises rose, rises)

-- ---- a move
pub move_less : (before : Option ℕ) (names : List ℕ) (spot : Spot) (next : Option Spot) (heap new : Heap) → spot_in before 0 names ≡ next → length names ≤ length spot.ahead → heap.next ≤ new.next → left_from new next < left_from heap (Some spot)
move_less before names spot None heap new e h i = nothing_left heap new spot
move_less before names spot (Some next) heap new e h i =
    let l = spot_length before 0 names next e in
    let long = l.0 in
    subst (λ k. 1 + ((name_limit - new.next) * 1024 + length next.ahead * 256 + (255 - k)) < left_from heap (Some spot)) (sym l.1) (less_moved name_limit heap.next new.next (length spot.ahead) (length next.ahead) spot.count i (omega arith))

-- ---- a discretionary
less_gone : (limit old new a b c k : ℕ) → old ≤ new → b < a → 1 + ((limit - new) * 1024 + b * 256 + (255 - k)) < 1 + ((limit - old) * 1024 + a * 256 + (255 - c))
less_gone limit old new a b c k h i = omega arith

-- the cursor comes to a node further on, after whatever number of steps
pub disc_less : (from : Cursor) (old mid items : List ℕ) (o : Option Cursor) (heap new : Heap) → length mid ≤ length old → IfSome o (λ _. length items < length mid) → heap.next ≤ new.next → left_from new (spot_from items o) < left_from heap (Some (spot_of from old))
disc_less from old mid items None heap new h i j = nothing_left heap new (spot_of from old)
disc_less from old mid items (Some cursor) heap new h i j =
    let less : length items < length mid = i in
    let before : length (reverse items) ≡ length items = length-reverse items in
    let after : length (reverse old) ≡ length old = length-reverse old in
    less_gone name_limit heap.next new.next (length (reverse old)) (length (reverse items)) from.count cursor.count j (omega arith)

-- ---- a turn in a list without discretionaries
moved_there : (spot : Spot) (heap new : Heap) (next : Option Spot) → EndsAs {E = Trouble} (Ok next) new (stays heap (Ok (moved_on spot))) → (left_from new next < left_from heap (Some spot)) × (heap.next ≤ new.next)
moved_there spot heap new next e =
    let same : heap.next ≡ new.next = ap (λ (x : Heap). x.next) e.1 in
    let rises : heap.next ≤ new.next = omega arith in
    (move_less (Some spot.at) spot.ahead spot next heap new (same_Ok {E = Trouble} (moved_on spot) next e.0) (omega arith) rises, rises)

in_part_less : (spot : Spot) (o : Option Lig) (names : List ℕ) (heap new : Heap) (next : Option Spot) → spot.ahead ≡ names → EndsAs (Ok next) new (step_in_part spot o names heap) → new.next ≤ name_limit → (left_from new next < left_from heap (Some spot)) × (heap.next ≤ new.next)
in_part_less spot (Some lig) (y ∷ rest) heap new next is e below = step_less spot lig y rest heap new next is e below
in_part_less spot (Some lig) [] heap new next is e below = moved_there spot heap new next e
in_part_less spot None names heap new next is e below = moved_there spot heap new next e

pub part_less : (fonts : List FontTables) (spot : Spot) (heap new : Heap) (next : Option Spot) → EndsAs (Ok next) new (part_turn fonts spot heap) → new.next ≤ name_limit → (left_from new next < left_from heap (Some spot)) × (heap.next ≤ new.next)
part_less fonts spot heap new next e below = in_part_less spot (lig_between fonts heap (Some spot.at) (slice_get spot.ahead 0)) spot.ahead heap new next refl e below
