-- How readings follow one another.
use Rattle.std.proofs.Common.{◌≡◌, ◌≤◌, ◌<◌, ℕ, suc, ◌+◌, ◌-◌, Bool, true, false, List, length, Some, Result, Ok, Err, refl, ap, subst, sym, OnOk, ◌∙◌, arith, if◌then◌else◌}
use Rattle.ntx_num.specs.declared.answer.Fail.{Fail}
use Rattle.ntx_num.specs.declared.answer.Fail.TheVariants.{NoMemory, Is}
use Rattle.ntx_syntax.specs.declared.fault.SyntaxFault.{SyntaxFault}
use Rattle.ntx_parse.specs.Words.{Word}
use Rattle.ntx_parse.specs.inner.Reading.{Stop, Answer, and_then, read}
use Rattle.ntx_parse.specs.inner.Input.{Input}
use Rattle.std.specs.Result.{IsErrAnd}
use Rattle.ntx_parse.specs.inner.Reads.{IsAtLast, Reads, went, stops, out_of_memory, fault_at}

-- A reading and what follows it.
at_last_ok : {A B : Type 0} {f : ℕ → Answer A} (next : ℕ → A → List Word → Answer B) {a : A} {words : List Word} {answer : Result (B × List Word) Stop}
    → IsAtLast f (Ok (a, words)) → IsAtLast (λ n. next n a words) answer → IsAtLast (λ n. and_then (f n) (next n)) answer
at_last_ok next first second = record {
  from = first.from + second.from;
  gives = λ n enough. rw (first.gives n (omega (arith, enough))) (second.gives n (omega (arith, enough)));
}

at_last_err : {A B : Type 0} {f : ℕ → Answer A} (next : ℕ → A → List Word → Answer B) {stop : Stop}
    → IsAtLast f (Err stop) → IsAtLast (λ n. and_then (f n) (next n)) (Err stop)
at_last_err next first = record { from = first.from; gives = λ n enough. rw (first.gives n enough) refl }

pub ok : {A B : Type 0} {f : ℕ → Answer A} (next : ℕ → A → List Word → Answer B) {a : A} {old middle new : Input} {r : Result B (Fail SyntaxFault)}
    → Reads f old (Ok a) middle → Reads (λ n. next n a middle.words) middle r new → Reads (λ n. and_then (f n) (next n)) old r new
ok next (went first line shorter) (went second line2 shorter2) = went (at_last_ok next first second) (line2 ∙ line) (omega (arith, shorter, shorter2))
ok next (went first line shorter) (stops stop second is) = stops stop (at_last_ok next first second) (is ∙ ap (λ l. fault_at l stop) line)
ok next (went first line shorter) out_of_memory = out_of_memory

pub err : {A B : Type 0} {f : ℕ → Answer A} (next : ℕ → A → List Word → Answer B) {old new newer : Input} {e : Fail SyntaxFault}
    → Reads f old (Err e) new → Reads (λ n. and_then (f n) (next n)) old (Err e) newer
err next (stops stop first is) = stops stop (at_last_err next first) is
err next out_of_memory = out_of_memory

-- One call deeper.
at_last_later : {A : Type 0} {f g : ℕ → Answer A} {answer : Result (A × List Word) Stop}
    → ((n : ℕ) → g (suc n) ≡ f n) → IsAtLast f answer → IsAtLast g answer
at_last_later {g = g} step first = record {
  from = suc first.from;
  gives = λ n enough.
      let e : n ≡ suc (n - 1) = omega (arith, enough) in
      ap g e ∙ step (n - 1) ∙ first.gives (n - 1) (omega (arith, enough));
}

pub later : {A : Type 0} {f g : ℕ → Answer A} {old new : Input} {r : Result A (Fail SyntaxFault)}
    → ((n : ℕ) → g (suc n) ≡ f n) → Reads f old r new → Reads g old r new
later {f = f} {g = g} step (went first line shorter) = went (at_last_later step first) line shorter
later step (stops stop first is) = stops stop (at_last_later step first) is
later step out_of_memory = out_of_memory

pub when : {A : Type 0} {f : ℕ → Answer A} (g : ℕ → Answer A) {old new : Input} {r : Result A (Fail SyntaxFault)} {b : Bool}
    → b ≡ true → Reads f old r new → Reads (λ n. if b then f n else g n) old r new
when g is h = rw is h

pub unless : {A : Type 0} (f : ℕ → Answer A) {g : ℕ → Answer A} {old new : Input} {r : Result A (Fail SyntaxFault)} {b : Bool}
    → b ≡ false → Reads g old r new → Reads (λ n. if b then f n else g n) old r new
unless f is h = rw is h

-- What is read takes nothing.
pub done : {A : Type 0} {a : A} {now : Input} → Reads (λ n. read a now.words) now (Ok a) now
done = went (record { from = 0; gives = λ n enough. refl }) refl (omega arith)

pub shorter_of : {A : Type 0} {f : ℕ → Answer A} {old new : Input} {a : A} → Reads f old (Ok a) new → length new.words ≤ length old.words
shorter_of (went first line shorter) = shorter

-- What is read with no call.
pub at_once : {A : Type 0} {reading : Answer A} {a : A} {old new : Input}
    → reading ≡ Some (Ok (a, new.words)) → new.last_line ≡ old.last_line → length new.words ≤ length old.words → Reads (λ _. reading) old (Ok a) new
at_once e line shorter = went (record { from = 0; gives = λ n enough. e }) line shorter

pub stops_at_once : {A : Type 0} {reading : Answer A} {old new : Input} {fault : SyntaxFault} (stop : Stop)
    → reading ≡ Some (Err stop) → fault ≡ fault_at old.last_line stop → Reads (λ _. reading) old (Err (Is fault)) new
stops_at_once stop e is = stops stop (record { from = 0; gives = λ n enough. e }) is

-- A reading that a `?` ends.
pub err_by : {A B : Type 0} {f : ℕ → Answer A} (next : ℕ → A → List Word → Answer B) {old new newer : Input} {e : Fail SyntaxFault}
    (r : Result B (Fail SyntaxFault)) → IsErrAnd r (λ y. y ≡ e) → Reads f old (Err e) new → Reads (λ n. and_then (f n) (next n)) old r newer
err_by next (Ok b) is h = absurd is
err_by next (Err y) is h = rw is (err next h)

pub no_memory_by : {A : Type 0} {f : ℕ → Answer A} {old new : Input} (r : Result A (Fail SyntaxFault)) → IsErrAnd r (λ y. y ≡ NoMemory) → Reads f old r new
no_memory_by (Ok b) is = absurd is
no_memory_by (Err y) is = rw is out_of_memory

-- A reading with an equal part.
pub with_equal : {X A : Type 0} (f : X → ℕ → Answer A) {old : Input} {x y : X} → x ≡ y → (r : Result A (Fail SyntaxFault)) (new : Input)
    → Reads (f x) old r new → Reads (f y) old r new
with_equal f {old = old} is r new h = subst (λ x. Reads (f x) old r new) is h

pub line_kept : {A : Type 0} {f : ℕ → Answer A} {old new : Input} {a : A} → Reads f old (Ok a) new → old.last_line ≡ new.last_line
line_kept (went first line shorter) = sym line

-- What follows a shorter rest is shorter.
pub stays_shorter : {A : Type 0} {f : ℕ → Answer A} {middle new : Input} {r : Result A (Fail SyntaxFault)} {n : ℕ}
    → Reads f middle r new → length middle.words < n → OnOk r (length new.words < n)
stays_shorter (went first line shorter) strict = omega (arith, shorter, strict)
stays_shorter (stops stop first is) strict = tt
stays_shorter out_of_memory strict = tt

-- Two readings that are one.
at_last_same : {A : Type 0} {f g : ℕ → Answer A} {answer : Result (A × List Word) Stop} → ((n : ℕ) → g n ≡ f n) → IsAtLast f answer → IsAtLast g answer
at_last_same equal first = record { from = first.from; gives = λ n enough. equal n ∙ first.gives n enough }

pub same : {A : Type 0} {f g : ℕ → Answer A} {old new : Input} {r : Result A (Fail SyntaxFault)} → ((n : ℕ) → g n ≡ f n) → Reads f old r new → Reads g old r new
same equal (went first line shorter) = went (at_last_same equal first) line shorter
same equal (stops stop first is) = stops stop (at_last_same equal first) is
same equal out_of_memory = out_of_memory

-- What a `?` ends stops where the reading before it does.
pub ends_by : {A B : Type 0} {f : ℕ → Answer A} {g : ℕ → Answer B} {old new newer : Input} {e : Fail SyntaxFault} (r : Result B (Fail SyntaxFault))
    → IsErrAnd r (λ y. y ≡ e) → (Reads f old (Err e) new → Reads g old (Err e) newer) → Reads f old (Err e) new → Reads g old r newer
ends_by (Ok b) is step h = absurd is
ends_by (Err y) is step h = rw is (step h)
