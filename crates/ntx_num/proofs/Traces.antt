-- How traces follow one another.
use Rattle.std.proofs.Common.{◌≡◌, suc, List, [], ◌∷◌, ◌++◌, Ok, Err, refl, sym, ◌∙◌, ap, subst, append_assoc, arith}
use Rattle.std.specs.Prelude.{Result, Contains}
use Rattle.ntx_num.specs.Answer.{Traces}
use Rattle.ntx_num.specs.declared.answer.Fail.{Fail}
use Rattle.ntx_num.specs.declared.answer.Fail.TheVariants.{NoMemory, Is}
use Rattle.ntx_num.specs.Trace.{Trace, states, stays, stepped, after, on_ending, trace_and_then, each_in_turn, Passes, EndsAs}

-- ---- the first state
pub record Begins {S A E : Type 0} (t : Trace S A E) (s : S) : Type 0 where
  pub more : List S
  pub is : states t ≡ s ∷ more

pub begins_stays : {S A E : Type 0} (s : S) (r : Result A E) → Begins (stays s r) s
begins_stays s r = record { more = []; is = refl }

pub begins_step : {S A E : Type 0} (r : Result (A × S) E) (s : S) → Begins (stepped r s) s
begins_step (Ok done) s = record { more = done.1 ∷ []; is = refl }
begins_step (Err e) s = record { more = []; is = refl }

states_after : {S A E : Type 0} (before : List S) (t : Trace S A E) → states (after before t) ≡ before ++ states t
states_after before t = append_assoc before t.earlier (t.last ∷ [])

-- the last state of one trace is the first of the next
joined : {S : Type 0} (earlier more rest : List S) (last : S) → rest ≡ last ∷ more → earlier ++ rest ≡ (earlier ++ last ∷ []) ++ more
joined earlier more rest last e = ap (λ x. earlier ++ x) e ∙ sym (append_assoc earlier (last ∷ []) more)

begins_on : {S A B E : Type 0} (earlier : List S) (last s : S) (r : Result A E) (f : A → S → Trace S B E) → ((a : A) (x : S) → Begins (f a x) x) → Begins (record { earlier = earlier; last = last; ending = r }) s → Begins (on_ending earlier last r f) s
begins_on earlier last s (Err e) f each b = record { more = b.more; is = b.is }
begins_on earlier last s (Ok a) f each b =
    let next = each a last in
    record { more = b.more ++ next.more; is = states_after earlier (f a last) ∙ joined earlier next.more (states (f a last)) last next.is ∙ ap (λ x. x ++ next.more) b.is }

pub begins_then : {S A B E : Type 0} (t : Trace S A E) (s : S) (f : A → S → Trace S B E) → ((a : A) (x : S) → Begins (f a x) x) → Begins t s → Begins (trace_and_then t f) s
begins_then t s f each b = begins_on t.earlier t.last s t.ending f each b

pub begins_each : {S X E : Type 0} (pass : X → S → Trace S (Unit {0}) E) (xs : List X) (s : S) → ((x : X) (y : S) → Begins (pass x y) y) → Begins (each_in_turn pass xs s) s
begins_each pass [] s each = begins_stays s (Ok tt)
begins_each pass (x ∷ xs) s each = begins_then (pass x s) s (λ _ t. each_in_turn pass xs t) (λ _ t. begins_each pass xs t each) (each x s)

-- ---- one trace after another
pub after_twice : {S A E : Type 0} (a b : List S) (t : Trace S A E) → after a (after b t) ≡ after (a ++ b) t
after_twice {S} a b t = ap (λ (x : List S). record { earlier = x; last = t.last; ending = t.ending }) (sym (append_assoc a b t.earlier))

pub went_on : {S A B E : Type 0} (t : Trace S A E) (a : A) (s : S) (f : A → S → Trace S B E) → EndsAs (Ok a) s t → trace_and_then t f ≡ after t.earlier (f a s)
went_on t a s f e = ap (λ r. on_ending t.earlier t.last r f) e.0 ∙ ap (λ x. after t.earlier (f a x)) e.1

passes_after : {S A E : Type 0} (before : List S) (t : Trace S A E) (s : S) → Passes t s → Passes (after before t) s
passes_after before t s p = (before ++ p.0, p.1, states_after before t ∙ ap (λ x. before ++ x) p.2 ∙ sym (append_assoc before p.0 (s ∷ p.1)))

ends_after : {S A E : Type 0} (before : List S) (t : Trace S A E) (r : Result A (Fail E)) (new : S) → EndsAs r new t → EndsAs r new (after before t)
ends_after before t (Ok a) new e = e
ends_after before t (Err (Is why)) new e = e
ends_after before t (Err NoMemory) new e = passes_after before t new e

-- the first ends well, and the second as it may
pub ends_later : {S A B E : Type 0} (t : Trace S A E) (a : A) (s new : S) (f : A → S → Trace S B E) (r : Result B (Fail E)) → EndsAs (Ok a) s t → EndsAs r new (f a s) → EndsAs r new (trace_and_then t f)
ends_later t a s new f r first second = subst (EndsAs r new) (sym (went_on t a s f first)) (ends_after t.earlier (f a s) r new second)

passes_on : {S A B E : Type 0} (earlier : List S) (last s : S) (r : Result A E) (f : A → S → Trace S B E) → ((a : A) (x : S) → Begins (f a x) x) → Passes (record { earlier = earlier; last = last; ending = r }) s → Passes (on_ending earlier last r f) s
passes_on earlier last s (Err e) f each p = (p.0, p.1, p.2)
passes_on earlier last s (Ok a) f each p =
    let next = each a last in
    (p.0, p.1 ++ next.more, states_after earlier (f a last) ∙ joined earlier next.more (states (f a last)) last next.is ∙ ap (λ x. x ++ next.more) p.2 ∙ append_assoc p.0 (s ∷ p.1) next.more)

-- the first does not end well
pub ends_there : {S A B E : Type 0} (t : Trace S A E) (new : S) (f : A → S → Trace S B E) (e : Fail E) → ((a : A) (x : S) → Begins (f a x) x) → EndsAs {A = A} (Err e) new t → EndsAs {A = B} (Err e) new (trace_and_then t f)
ends_there t new f (Is why) each e = (ap (λ r. (on_ending t.earlier t.last r f).ending) e.0, ap (λ r. (on_ending t.earlier t.last r f).last) e.0 ∙ e.1)
ends_there t new f NoMemory each e = passes_on t.earlier t.last new t.ending f each e

-- ---- a step
pub ends_stepped : {S A E : Type 0} (r : Result (A × S) E) (a : A) (s new : S) → r ≡ Ok (a, new) → EndsAs {A = A} (Ok a) new (stepped r s)
ends_stepped r a s new e = (ap (λ x. (stepped x s).ending) e, ap (λ x. (stepped x s).last) e)

pub ends_refused : {S A E : Type 0} (r : Result (A × S) E) (e : E) (s : S) → r ≡ Err e → EndsAs {A = A} (Err (Is e)) s (stepped r s)
ends_refused r e s is = (ap (λ x. (stepped x s).ending) is, ap (λ x. (stepped x s).last) is)

pub passes_first : {S A E : Type 0} (t : Trace S A E) (s : S) → Begins t s → Passes t s
passes_first t s b = ([], b.more, b.is)

-- ---- each in turn
-- what is left of a pass over some items
pub record Goes {S X E : Type 0} (pass : X → S → Trace S (Unit {0}) E) (xs : List X) (old : S) (left : List X) (now : S) : Type 0 where
  pub before : List S
  pub is : each_in_turn pass xs old ≡ after before (each_in_turn pass left now)

pub goes_begun : {S X E : Type 0} (pass : X → S → Trace S (Unit {0}) E) (xs : List X) (old : S) → Goes pass xs old xs old
goes_begun pass xs old = record { before = []; is = refl }

pub goes_on : {S X E : Type 0} (pass : X → S → Trace S (Unit {0}) E) (xs left : List X) (x : X) (old now new : S) → Goes pass xs old (x ∷ left) now → EndsAs (Ok tt) new (pass x now) → Goes pass xs old left new
goes_on pass xs left x old now new g e = record {
  before = g.before ++ (pass x now).earlier;
  is = g.is ∙ ap (after g.before) (went_on (pass x now) tt new (λ _ t. each_in_turn pass left t) e) ∙ after_twice g.before (pass x now).earlier (each_in_turn pass left new);
}

pub goes_ended : {S X E : Type 0} (pass : X → S → Trace S (Unit {0}) E) (xs : List X) (old now : S) → Goes pass xs old [] now → EndsAs (Ok tt) now (each_in_turn pass xs old)
goes_ended pass xs old now g = (ap (λ t. t.ending) g.is, ap (λ t. t.last) g.is)

pub goes_stopped : {S X E : Type 0} (pass : X → S → Trace S (Unit {0}) E) (xs left : List X) (x : X) (old now new : S) (e : Fail E) → ((y : X) (s : S) → Begins (pass y s) s) → Goes pass xs old (x ∷ left) now → EndsAs (Err e) new (pass x now)
    → EndsAs (Err e) new (each_in_turn pass xs old)
goes_stopped pass xs left x old now new e each g stops =
    subst (EndsAs (Err e) new) (sym g.is)
    (ends_after g.before (each_in_turn pass (x ∷ left) now) (Err e) new (ends_there (pass x now) new (λ _ t. each_in_turn pass left t) e (λ _ t. begins_each pass left t each) stops))

-- ---- as contracts say it
contains : {S : Type 0} (before more : List S) (s : S) → Contains (before ++ s ∷ more) s
contains [] more s = (0, omega arith, refl)
contains (x ∷ before) more s = let rest = contains before more s in (suc rest.0, omega (arith, rest.1), rest.2)

pub traces : {S A E : Type 0} (r : Result A (Fail E)) (new : S) (t : Trace S A E) → EndsAs r new t → Traces r new (states t) t.ending
traces (Ok a) new t e = (e.0, (t.earlier, ap (λ x. t.earlier ++ x ∷ []) e.1))
traces (Err (Is why)) new t e = (e.0, (t.earlier, ap (λ x. t.earlier ++ x ∷ []) e.1))
traces (Err NoMemory) new t e = subst (λ xs. Contains xs new) (sym e.2) (contains e.0 e.1 new)
