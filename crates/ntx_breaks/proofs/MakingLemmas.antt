-- What is known of the states that are made at a place.
use Rattle.std.proofs.Common.{ℕ, ◌≤◌, ◌^◌, List, [], ◌∷◌, ◌++◌, Bool, true, false, cond, Option, Some, None, length, refl, ap, sym, ◌∙◌, arith, append-nil, append_assoc}
use Rattle.std.specs.Prelude.{ℤ, int_lt, int_le, nat_eq, IfSome}
use Rattle.std.specs.Int.RustNames.{unsigned_abs}
use Rattle.std.specs.List.{All, fold}
use Rattle.std.proofs.lemmas.List.Elements.{All-nil, All-cons, All-head, All-tail, All-append, All-filter, All-weaker}
use Rattle.ntx_item.specs.Settings.{Settings}
use Rattle.ntx_breaks.specs.declared.state.State.{State}
use Rattle.ntx_breaks.specs.inner.Bounds.{most_place, IsMade}
use Rattle.ntx_breaks.specs.inner.Search.{Extends}
use Rattle.ntx_breaks.specs.Making.{lesser, least_of, of_class, push_within, add_class, add_within, add_near, add_states, most_total}

nothing_more : (P : State → Type 0) (states : List State) → Extends P states states
nothing_more P states = record { made = []; is = sym (append-nil states); each = All-nil P }

one_more : (P : State → Type 0) (states : List State) (s : State) → P s → Extends P states (states ++ s ∷ [])
one_more P states s p = record { made = s ∷ []; is = refl; each = All-cons P s [] p (All-nil P) }

then_more : (P : State → Type 0) (a b d : List State) → Extends P a b → Extends P b d → Extends P a d
then_more P a b d e f = record {
  made = e.made ++ f.made;
  is = f.is ∙ ap (λ l. l ++ f.made) e.is ∙ append_assoc a e.made f.made;
  each = All-append P e.made f.made e.each f.each;
}

-- ---- the least candidate

either : (P : State → Type 0) (b : Bool) (s t : State) → P s → P t → IfSome (cond b (Some s) (Some t)) P
either P true s t p q = p
either P false s t p q = q

lesser_is : (P : State → Type 0) (best : Option State) (s : State) → IfSome best P → P s → IfSome (lesser best s) P
lesser_is P None s h p = p
lesser_is P (Some best) s h p = either P (int_lt best.total s.total) best s h p

fold_is : (P : State → Type 0) (best : Option State) (states : List State) → IfSome best P → All P states → IfSome (fold lesser best states) P
fold_is P best [] h all = h
fold_is P best (s ∷ states) h all = fold_is P (lesser best s) states (lesser_is P best s h (All-head P s states all)) (All-tail P s states all)

pub least_is : (P : State → Type 0) (states : List State) → All P states → IfSome (least_of states) P
least_is P states all = fold_is P None states tt all

-- ---- the states that are made

-- a property that does not speak of numbers
abbrev pub IsNumberFree : (State → Type 0) → Type 0
IsNumberFree P = (s : State) (n : ℕ) → P s → P (record s { number = n })

push_if : (P : State → Type 0) (b : Bool) (states : List State) (s : State) → P s → Extends P states (cond b (states ++ s ∷ []) states)
push_if P true states s p = one_more P states s p
push_if P false states s p = nothing_more P states

push_is : (P : State → Type 0) → IsNumberFree P → (most : ℤ) (states : List State) (best : Option State) → IfSome best P → Extends P states (push_within most states best)
push_is P free most states None h = nothing_more P states
push_is P free most states (Some s) h = push_if P (int_le s.total most) states (record s { number = length states }) (free s (length states) h)

pub class_is : (P : State → Type 0) → IsNumberFree P → (most : ℤ) (candidates : List State) (class : ℕ) (states : List State) → All P candidates → Extends P states (add_class most candidates class states)
class_is P free most candidates class states all =
    push_is P free most states (least_of (of_class class candidates)) (least_is P (of_class class candidates) (All-filter (λ (s : State). nat_eq s.class class) P candidates all))

within_is : (P : State → Type 0) → IsNumberFree P → (most : ℤ) (candidates states : List State) → All P candidates → Extends P states (add_within most candidates states)
within_is P free most candidates states all =
    let a = add_class most candidates 0 states in
    let b = add_class most candidates 1 a in
    let d = add_class most candidates 2 b in
    let e = add_class most candidates 3 d in
    then_more P states d e
    (then_more P states b d (then_more P states a b (class_is P free most candidates 0 states all) (class_is P free most candidates 1 a all)) (class_is P free most candidates 2 b all))
    (class_is P free most candidates 3 d all)

near_is : (P : State → Type 0) → IsNumberFree P → (params : Settings) (candidates states : List State) (least : Option State) → All P candidates → Extends P states (add_near params candidates least states)
near_is P free params candidates states None all = nothing_more P states
near_is P free params candidates states (Some least) all = within_is P free (most_total params least) candidates states all

pub added_is : (P : State → Type 0) → IsNumberFree P → (params : Settings) (candidates states : List State) → All P candidates → Extends P states (add_states params candidates states)
added_is P free params candidates states all = near_is P free params candidates states (least_of candidates) all

-- ---- bounds

small_total : (to : ℕ) → to ≤ most_place → (s : State) → IsMade to s → unsigned_abs s.total ≤ 2 ^ 60
small_total to le s h = omega (arith, h.place, h.total)

pub small_totals : (to : ℕ) → to ≤ most_place → (states : List State) → All (IsMade to) states → All (λ (s : State). unsigned_abs s.total ≤ 2 ^ 60) states
small_totals to le states all = All-weaker (IsMade to) (λ (s : State). unsigned_abs s.total ≤ 2 ^ 60) (small_total to le) states all

pub made_free : (to : ℕ) → IsNumberFree (IsMade to)
made_free to s n h = record { place = h.place; total = h.total }
