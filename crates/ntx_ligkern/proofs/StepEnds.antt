-- How the traces of a ligature step end, one part after another.
use Rattle.std.proofs.Common.{◌≡◌, ℕ, pos, Bool, true, false, if◌then◌else◌, Some, Ok, Err, refl, sym, subst}
use Rattle.std.specs.Prelude.{Option, Result}
use Rattle.ntx_num.specs.Answer.{Steps}
use Rattle.ntx_num.specs.Trace.{Trace, stays, stepped, trace_and_then, EndsAs}
use Rattle.ntx_num.specs.declared.answer.Fail.{Fail}
use Rattle.ntx_num.specs.declared.answer.Fail.TheVariants.{NoMemory, Is}
use Rattle.ntx_num.proofs.Traces.{Begins, begins_stays, begins_step, begins_then, passes_first, ends_later, ends_there, ends_stepped, ends_refused}
use Rattle.ntx_nodes.specs.Heap.{Heap}
use Rattle.ntx_nodes.specs.Steps.{copy_one_step, free_one_step, set_step}
use Rattle.ntx_nodes.specs.declared.field.Field.{Field}
use Rattle.ntx_nodes.specs.declared.field.Field.TheVariants.{Subtype, Next, Char}
use Rattle.ntx_nodes.specs.declared.field.FieldValue.{FieldValue}
use Rattle.ntx_nodes.specs.declared.field.FieldValue.TheVariants.{Number, Link}
use Rattle.ntx_nodes.specs.declared.trouble.Trouble.{Trouble}
use Rattle.ntx_ligkern.specs.Ligatures.{keeps_left, keeps_right, set_to, linked, put_in, copied, turned, replaced, placed, inserted, put_lig, let_die, freed, let_go, joined}
use Rattle.ntx_ligkern.specs.declared.lig.Lig.{Lig}

-- ---- steps of a heap
pub step_ends : {S A E : Type 0} (r : Result A (Fail E)) (old new : S) (step : Result (A × S) E) → Steps r old new step → EndsAs r new (stepped step old)
step_ends (Ok a) old new step s = ends_stepped step a old new s
step_ends {A = A} (Err (Is e)) old new step s = subst (λ x. EndsAs {A = A} (Err (Is e)) x (stepped step old)) (sym s.1) (ends_refused step e old s.0)
step_ends {A = A} (Err NoMemory) old new step s = subst (λ x. EndsAs {A = A} (Err NoMemory) x (stepped step old)) (sym s) (passes_first (stepped step old) old (begins_step step old))

pub step_refuses : {S A E : Type 0} (e : E) (old new : S) (step : Result (A × S) E) → step ≡ Err e → new ≡ old → EndsAs {A = A} (Err (Is e)) new (stepped step old)
step_refuses {A = A} e old new step is same = subst (λ x. EndsAs {A = A} (Err (Is e)) x (stepped step old)) (sym same) (ends_refused step e old is)

pub begins_set : (n : ℕ) (f : Field) (v : FieldValue) (heap : Heap) → Begins (set_to n f v heap) heap
begins_set n f v heap = begins_step (set_step n f v heap) heap

pub begins_link : (n : ℕ) (f : Field) (to : Option ℕ) (heap : Heap) → Begins (linked n f to heap) heap
begins_link n f to heap = begins_set n f (Link to) heap

pub begins_copy : (n : ℕ) (heap : Heap) → Begins (copied n heap) heap
begins_copy n heap = begins_step (copy_one_step n heap) heap

pub begins_free : (n : ℕ) (heap : Heap) → Begins (let_die n heap) heap
begins_free n heap = begins_step (free_one_step n heap) heap

-- a value in place of another
abbrev pub gives : {A B : Type 0} → B → A → Heap → Trace Heap B Trouble
gives b _ heap = stays heap (Ok b)

pub gives_stops : {A B : Type 0} (t : Trace Heap A Trouble) (b : B) (new : Heap) (e : Fail Trouble) → EndsAs {A = A} (Err e) new t → EndsAs {A = B} (Err e) new (trace_and_then t (gives b))
gives_stops t b new e h = ends_there t new (gives b) e (λ _ x. begins_stays x (Ok b)) h

pub gives_ends : {A B : Type 0} (t : Trace Heap A Trouble) (a : A) (b : B) (new : Heap) → EndsAs (Ok a) new t → EndsAs (Ok b) new (trace_and_then t (gives b))
gives_ends t a b new h = ends_later t a new new (gives b) (Ok b) h (refl, refl)

begins_gives : {A B : Type 0} (t : Trace Heap A Trouble) (b : B) (heap : Heap) → Begins t heap → Begins (trace_and_then t (gives b)) heap
begins_gives t b heap h = begins_then t heap (gives b) (λ _ x. begins_stays x (Ok b)) h

-- ---- a node that comes into a list
abbrev then_put : ℕ → ℕ → Field → Unit {0} → Heap → Trace Heap (Unit {0}) Trouble
then_put new n f _ kept = linked n f (Some new) kept

pub begins_put : (new n : ℕ) (f : Field) (next : Option ℕ) (heap : Heap) → Begins (put_in new n f next heap) heap
begins_put new n f next heap = begins_then (linked new Next next heap) heap (then_put new n f) (λ _ x. begins_link n f (Some new) x) (begins_link new Next next heap)

pub put_stops : (new n : ℕ) (f : Field) (next : Option ℕ) (heap last : Heap) (e : Fail Trouble) → EndsAs {A = Unit {0}} (Err e) last (linked new Next next heap) → EndsAs {A = Unit {0}} (Err e) last (put_in new n f next heap)
put_stops new n f next heap last e h = ends_there (linked new Next next heap) last (then_put new n f) e (λ _ x. begins_link n f (Some new) x) h

pub put_ends : (new n : ℕ) (f : Field) (next : Option ℕ) (heap mid last : Heap) (r : Result (Unit {0}) (Fail Trouble)) → EndsAs (Ok tt) mid (linked new Next next heap) → EndsAs r last (linked n f (Some new) mid)
    → EndsAs r last (put_in new n f next heap)
put_ends new n f next heap mid last r h k = ends_later (linked new Next next heap) tt mid last (then_put new n f) r h k

-- ---- a ligature
abbrev then_turn : ℕ → Unit {0} → Heap → Trace Heap (Unit {0}) Trouble
then_turn n _ coded = set_to n Subtype (Number (pos 2)) coded

pub begins_turn : (n code : ℕ) (heap : Heap) → Begins (turned n code heap) heap
begins_turn n code heap = begins_then (set_to n Char (Number (pos code)) heap) heap (then_turn n) (λ _ x. begins_set n Subtype (Number (pos 2)) x) (begins_set n Char (Number (pos code)) heap)

pub turn_stops : (n code : ℕ) (heap last : Heap) (e : Fail Trouble) → EndsAs {A = Unit {0}} (Err e) last (set_to n Char (Number (pos code)) heap) → EndsAs {A = Unit {0}} (Err e) last (turned n code heap)
turn_stops n code heap last e h = ends_there (set_to n Char (Number (pos code)) heap) last (then_turn n) e (λ _ x. begins_set n Subtype (Number (pos 2)) x) h

pub turn_ends : (n code : ℕ) (heap mid last : Heap) (r : Result (Unit {0}) (Fail Trouble)) → EndsAs (Ok tt) mid (set_to n Char (Number (pos code)) heap) → EndsAs r last (set_to n Subtype (Number (pos 2)) mid) → EndsAs r last (turned n code heap)
turn_ends n code heap mid last r h k = ends_later (set_to n Char (Number (pos code)) heap) tt mid last (then_turn n) r h k

-- a copy of the left glyph that becomes it
abbrev put_new : ℕ → ℕ → ℕ → Heap → Trace Heap ℕ Trouble
put_new new x y heap = trace_and_then (put_in new x Next (Some y) heap) (gives new)

begins_put_new : (new x y : ℕ) (heap : Heap) → Begins (put_new new x y heap) heap
begins_put_new new x y heap = begins_gives (put_in new x Next (Some y) heap) new heap (begins_put new x Next (Some y) heap)

abbrev then_new : ℕ → ℕ → ℕ → Unit {0} → Heap → Trace Heap ℕ Trouble
then_new new x y _ named = put_new new x y named

begins_placed : (new x code y : ℕ) (heap : Heap) → Begins (placed new x code y heap) heap
begins_placed new x code y heap = begins_then (turned new code heap) heap (then_new new x y) (λ _ h. begins_put_new new x y h) (begins_turn new code heap)

pub placed_stops : (new x code y : ℕ) (heap last : Heap) (e : Fail Trouble) → EndsAs {A = Unit {0}} (Err e) last (turned new code heap) → EndsAs {A = ℕ} (Err e) last (placed new x code y heap)
placed_stops new x code y heap last e h = ends_there (turned new code heap) last (then_new new x y) e (λ _ h. begins_put_new new x y h) h

pub placed_stops_later : (new x code y : ℕ) (heap mid last : Heap) (e : Fail Trouble) → EndsAs (Ok tt) mid (turned new code heap) → EndsAs {A = Unit {0}} (Err e) last (put_in new x Next (Some y) mid) → EndsAs {A = ℕ} (Err e) last (placed new x code y heap)
placed_stops_later new x code y heap mid last e h k = ends_later (turned new code heap) tt mid last (then_new new x y) (Err e) h (gives_stops (put_in new x Next (Some y) mid) new last e k)

pub placed_ends : (new x code y : ℕ) (heap mid last : Heap) → EndsAs (Ok tt) mid (turned new code heap) → EndsAs (Ok tt) last (put_in new x Next (Some y) mid) → EndsAs (Ok new) last (placed new x code y heap)
placed_ends new x code y heap mid last h k = ends_later (turned new code heap) tt mid last (then_new new x y) (Ok new) h (gives_ends (put_in new x Next (Some y) mid) tt new last k)

abbrev then_place : ℕ → ℕ → ℕ → ℕ → Heap → Trace Heap ℕ Trouble
then_place x code y new made = placed new x code y made

pub begins_inserted : (x code y : ℕ) (heap : Heap) → Begins (inserted x code y heap) heap
begins_inserted x code y heap = begins_then (copied x heap) heap (then_place x code y) (λ new h. begins_placed new x code y h) (begins_copy x heap)

pub inserted_stops : (x code y : ℕ) (heap last : Heap) (e : Fail Trouble) → EndsAs {A = ℕ} (Err e) last (copied x heap) → EndsAs {A = ℕ} (Err e) last (inserted x code y heap)
inserted_stops x code y heap last e h = ends_there (copied x heap) last (then_place x code y) e (λ new h. begins_placed new x code y h) h

pub inserted_ends : (x code y new : ℕ) (heap mid last : Heap) (r : Result ℕ (Fail Trouble)) → EndsAs (Ok new) mid (copied x heap) → EndsAs r last (placed new x code y mid) → EndsAs r last (inserted x code y heap)
inserted_ends x code y new heap mid last r h k = ends_later (copied x heap) new mid last (then_place x code y) r h k

-- ---- the right glyph
abbrev then_free : ℕ → Unit {0} → Heap → Trace Heap (Unit {0}) Trouble
then_free y _ unlinked = let_die y unlinked

begins_freed : (holder y : ℕ) (after : Option ℕ) (heap : Heap) → Begins (freed holder y after heap) heap
begins_freed holder y after heap = begins_then (linked holder Next after heap) heap (then_free y) (λ _ h. begins_free y h) (begins_link holder Next after heap)

pub freed_stops : (holder y : ℕ) (after : Option ℕ) (heap last : Heap) (e : Fail Trouble) → EndsAs {A = Unit {0}} (Err e) last (linked holder Next after heap) → EndsAs {A = Unit {0}} (Err e) last (freed holder y after heap)
freed_stops holder y after heap last e h = ends_there (linked holder Next after heap) last (then_free y) e (λ _ h. begins_free y h) h

pub freed_ends : (holder y : ℕ) (after : Option ℕ) (heap mid last : Heap) (r : Result (Unit {0}) (Fail Trouble)) → EndsAs (Ok tt) mid (linked holder Next after heap) → EndsAs r last (let_die y mid) → EndsAs r last (freed holder y after heap)
freed_ends holder y after heap mid last r h k = ends_later (linked holder Next after heap) tt mid last (then_free y) r h k

by_bool : {A : Type 0} (P : A → Type 0) (b : Bool) (x y : A) → P x → P y → P (if b then x else y)
by_bool P true x y p q = p
by_bool P false x y p q = q

begins_let_go : (lig : Lig) (holder y : ℕ) (after : Option ℕ) (heap : Heap) → Begins (let_go lig holder y after heap) heap
begins_let_go lig holder y after heap = by_bool (λ t. Begins t heap) (keeps_right lig) (stays heap (Ok tt)) (freed holder y after heap) (begins_stays heap (Ok tt)) (begins_freed holder y after heap)

-- ---- both
begins_replaced : (x code : ℕ) (heap : Heap) → Begins (replaced x code heap) heap
begins_replaced x code heap = begins_gives (turned x code heap) x heap (begins_turn x code heap)

begins_lig : (x : ℕ) (lig : Lig) (y : ℕ) (heap : Heap) → Begins (put_lig x lig y heap) heap
begins_lig x lig y heap = by_bool (λ t. Begins t heap) (keeps_left lig) (inserted x lig.code y heap) (replaced x lig.code heap) (begins_inserted x lig.code y heap) (begins_replaced x lig.code heap)

abbrev go_by : Lig → ℕ → Option ℕ → ℕ → Heap → Trace Heap ℕ Trouble
go_by lig y after holder made = trace_and_then (let_go lig holder y after made) (gives holder)

begins_go_by : (lig : Lig) (y : ℕ) (after : Option ℕ) (holder : ℕ) (heap : Heap) → Begins (go_by lig y after holder heap) heap
begins_go_by lig y after holder heap = begins_gives (let_go lig holder y after heap) holder heap (begins_let_go lig holder y after heap)

pub begins_joined : (x : ℕ) (lig : Lig) (y : ℕ) (after : Option ℕ) (heap : Heap) → Begins (joined x lig y after heap) heap
begins_joined x lig y after heap = begins_then (put_lig x lig y heap) heap (go_by lig y after) (λ holder h. begins_go_by lig y after holder h) (begins_lig x lig y heap)

pub joined_stops : (x : ℕ) (lig : Lig) (y : ℕ) (after : Option ℕ) (heap last : Heap) (e : Fail Trouble) → EndsAs {A = ℕ} (Err e) last (put_lig x lig y heap) → EndsAs {A = ℕ} (Err e) last (joined x lig y after heap)
joined_stops x lig y after heap last e h = ends_there (put_lig x lig y heap) last (go_by lig y after) e (λ holder h. begins_go_by lig y after holder h) h

pub joined_stops_later : (x : ℕ) (lig : Lig) (y : ℕ) (after : Option ℕ) (holder : ℕ) (heap mid last : Heap) (e : Fail Trouble) → EndsAs (Ok holder) mid (put_lig x lig y heap) → EndsAs {A = Unit {0}} (Err e) last (let_go lig holder y after mid)
    → EndsAs {A = ℕ} (Err e) last (joined x lig y after heap)
joined_stops_later x lig y after holder heap mid last e h k = ends_later (put_lig x lig y heap) holder mid last (go_by lig y after) (Err e) h (gives_stops (let_go lig holder y after mid) holder last e k)

pub joined_ends : (x : ℕ) (lig : Lig) (y : ℕ) (after : Option ℕ) (holder : ℕ) (heap mid last : Heap) → EndsAs (Ok holder) mid (put_lig x lig y heap) → EndsAs (Ok tt) last (let_go lig holder y after mid) → EndsAs (Ok holder) last (joined x lig y after heap)
joined_ends x lig y after holder heap mid last h k = ends_later (put_lig x lig y heap) holder mid last (go_by lig y after) (Ok holder) h (gives_ends (let_go lig holder y after mid) tt holder last k)
