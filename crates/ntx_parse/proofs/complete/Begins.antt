-- What words begin with.
use Rattle.std.specs.Prelude.{◌≡◌, ◌≤◌, ◌<◌, ℕ, nat_eq, nat_le, Bool, true, false, List, [], ◌∷◌, map, ⊤}
use Rattle.std.proofs.Common.{refl, sym, ap, ◌∙◌, subst, le-leb, true≢false}
use Rattle.std.proofs.lemmas.Bool.{eq-eqb, lt-leb}
use Rattle.ntx_syntax.specs.declared.fault.SyntaxWhy.{SyntaxWhy}
use Rattle.ntx_syntax.specs.declared.fault.SyntaxWhy.TheVariants as why
use Rattle.ntx_syntax.specs.Terminals.{same_terminal}
use Rattle.ntx_parse.specs.declared.place.Place.{Place}
use Rattle.ntx_syntax.specs.declared.terminal.Terminal.{Terminal}
use Rattle.ntx_syntax.specs.declared.terminal.Terminal.TheVariants as terminal
use Rattle.ntx_parse.specs.Words.{Word}
use Rattle.ntx_parse.specs.Grammar.{Placed, Is, IsAllowed, NotBefore, max_nesting}
use Rattle.ntx_parse.specs.inner.Reading.{Answer, read, stopped, begins, take_word, expect_word, and_then}
use Rattle.ntx_parse.proofs.TerminalLemmas.{equal_terminals, same_when_equal}
use Rattle.ntx_parse.proofs.complete.Comes.{Boundary, IsBad, too_deep, no_loop, IsAllowedBefore, Comes, comes_first, comes_then, comes_if}

-- the words without their places
abbrev pub plain : List Placed → List Word
plain placed = map (λ o. o.word) placed

-- Each is allowed, or at the boundary, or after it.
abbrev pub AreAllowedBefore : Boundary → List Placed → Type 0
AreAllowedBefore boundary [] = ⊤
AreAllowedBefore boundary (o ∷ words) = IsAllowedBefore boundary o (plain words) × AreAllowedBefore boundary words

-- ---- what can be after a phrase

abbrev pub is_this : Terminal → Terminal → Bool
is_this u t = same_terminal t u

-- The words have no first, or one that passes this test.
abbrev pub Follows : (Terminal → Bool) → List Placed → Type 0
Follows q [] = ⊤
Follows q (o ∷ words) = q o.word.is ≡ true

-- The words have a first, and it passes this test.
abbrev pub Starts : (Terminal → Bool) → List Placed → Type 0
Starts q [] = ⊥
Starts q (o ∷ words) = q o.word.is ≡ true

abbrev pub implies : Bool → Bool → Bool
implies false b = true
implies true b = b

pub implied : {a b : Bool} → implies a b ≡ true → a ≡ true → b ≡ true
implied {a = false} {b} e h = absurd (true≢false (sym h))
implied {a = true} {b} e h = e

pub follows_also : (q r : Terminal → Bool) → ((t : Terminal) → implies (q t) (r t) ≡ true) → (words : List Placed) → Follows q words → Follows r words
follows_also q r table [] h = tt
follows_also q r table (o ∷ words) h = implied (table o.word.is) h

pub starts_also : (q r : Terminal → Bool) → ((t : Terminal) → implies (q t) (r t) ≡ true) → (words : List Placed) → Starts q words → Starts r words
starts_also q r table [] h = elim h [ ]
starts_also q r table (o ∷ words) h = implied (table o.word.is) h

pub starts_follows : (q : Terminal → Bool) (words : List Placed) → Starts q words → Follows q words
starts_follows q [] h = elim h [ ]
starts_follows q (o ∷ words) h = h

pub starts_begin : (u : Terminal) (words : List Placed) → Starts (is_this u) words → begins u (plain words) ≡ true
starts_begin u [] h = elim h [ ]
starts_begin u (o ∷ words) h = h

-- A word that is this passes the tests that this passes.
pub passes : {p : Place} {t : Terminal} {o : Placed} (q : Terminal → Bool) → Is p t o → q t ≡ true → q o.word.is ≡ true
passes q i e = ap q i.is ∙ e

-- one that is not this
pub is_other : {p : Place} {t : Terminal} {o : Placed} (u : Terminal) → Is p t o → same_terminal t u ≡ false
    → same_terminal o.word.is u ≡ false
is_other u i e = ap (λ s. same_terminal s u) i.is ∙ e

other_than : (q : Terminal → Bool) (t u : Terminal) (b : Bool) → same_terminal t u ≡ b → q t ≡ true → q u ≡ false → b ≡ false
other_than q t u true e h other = absurd (true≢false (sym h ∙ (ap q (equal_terminals t u e) ∙ other)))
other_than q t u false e h other = refl

-- What passes a test is none of those that do not.
pub not_begins : (q : Terminal → Bool) (u : Terminal) (words : List Placed) → q u ≡ false → Follows q words → begins u (plain words) ≡ false
not_begins q u [] other h = refl
not_begins q u (o ∷ words) other h = other_than q o.word.is u (same_terminal o.word.is u) refl h other

not_this : (t u : Terminal) (b : Bool) → same_terminal t u ≡ b → (t ≡ u → ⊥) → b ≡ false
not_this t u true e other = absurd (other (equal_terminals t u e))
not_this t u false e other = refl

pub not_before : (u : Terminal) (words : List Placed) → NotBefore u words → begins u (plain words) ≡ false
not_before u [] other = refl
not_before u (o ∷ words) other = not_this o.word.is u (same_terminal o.word.is u) refl (other o words refl)

-- ---- one word

pub enough : {p : Place} {t : Terminal} {o : Placed} → Is p t o → o.place.nesting ≤ max_nesting → nat_le p.nesting max_nesting ≡ true
enough {p} i h = le-leb p.nesting max_nesting (subst (λ place. place.nesting ≤ max_nesting) i.place h)

pub too_much : {p : Place} {t : Terminal} {o : Placed} → Is p t o → max_nesting < o.place.nesting → nat_le p.nesting max_nesting ≡ false
too_much {p} i h = lt-leb p.nesting max_nesting (subst (λ place. max_nesting < place.nesting) i.place h)

-- A word that stands where it is taken is taken.
pub taken_here : {p : Place} {t : Terminal} {o : Placed} (words : List Word) → Is p t o → IsAllowed o → take_word p (o.word ∷ words) ≡ read o.word words
taken_here words i allowed = rw (enough i allowed.nesting)

pub begins_here : {p : Place} {t : Terminal} {o : Placed} → Is p t o → same_terminal o.word.is t ≡ true
begins_here {p} {t} {o} i = same_when_equal o.word.is t i.is

-- At one that is not allowed and no `break` the reading stops, since it is too deep.
taken_bad : {p : Place} {t : Terminal} {o : Placed} (words : List Word) (reason : SyntaxWhy) → Is p t o → is_this terminal.Break t ≡ false → IsBad reason o
    → take_word p (o.word ∷ words) ≡ stopped reason (o.word ∷ words)
taken_bad words _ i other (too_deep h) = rw (too_much i h)
taken_bad words _ i other (no_loop h is out) = absurd (true≢false (ap (is_this terminal.Break) (sym is ∙ i.is) ∙ other))

pub comes_word : {boundary : Boundary} {p : Place} {t : Terminal} {o : Placed} {words : List Word} → Is p t o → is_this terminal.Break t ≡ false → IsAllowedBefore boundary o words
    → Comes boundary (o.word ∷ words) (λ n. take_word p (o.word ∷ words)) (read o.word words)
comes_word {p = p} {o = o} {words = words} i other allowed =
    comes_first (take_word p (o.word ∷ words)) o.word (taken_here words i) (λ reason. taken_bad words reason i other) allowed

expected_word : {boundary : Boundary} {p : Place} {t : Terminal} {o : Placed} {words : List Word} → Is p t o → is_this terminal.Break t ≡ false → IsAllowedBefore boundary o words
    → Comes boundary (o.word ∷ words) (λ n. expect_word p t (o.word ∷ words)) (read o.word words)
expected_word {words = words} i other allowed = comes_if (λ n. stopped why.Expected _) (begins_here i) (comes_word i other allowed)

-- A word that is there is taken, and what is after it is read.
pub comes_taken : {boundary : Boundary} {A : Type 0} {p : Place} {t : Terminal} {o : Placed} {words : List Word} {x : Answer A} (g : ℕ → Word → List Word → Answer A)
    → Is p t o → is_this terminal.Break t ≡ false → IsAllowedBefore boundary o words → Comes boundary words (λ n. g n o.word words) x
    → Comes boundary (o.word ∷ words) (λ n. and_then (take_word p (o.word ∷ words)) (g n)) x
comes_taken g i other allowed c = comes_then g (comes_word i other allowed) c

pub comes_expected : {boundary : Boundary} {A : Type 0} {p : Place} {t : Terminal} {o : Placed} {words : List Word} {x : Answer A} (g : ℕ → Word → List Word → Answer A)
    → Is p t o → is_this terminal.Break t ≡ false → IsAllowedBefore boundary o words → Comes boundary words (λ n. g n o.word words) x
    → Comes boundary (o.word ∷ words) (λ n. and_then (expect_word p t (o.word ∷ words)) (g n)) x
comes_expected g i other allowed c = comes_then g (expected_word i other allowed) c
