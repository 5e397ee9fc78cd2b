-- What is read, said of one answer: the words that were read can be placed so that they spell the tree.
use Rattle.std.proofs.Common.{◌≡◌, Bool, true, false, List, [], ◌∷◌, None, Some, Ok, Err, cond, nat_eq, nat_le, refl, sym, ap, ◌∙◌, subst, leb-true}
use Rattle.std.proofs.lemmas.Bool.{false≢true}
use Rattle.std.specs.List.{AllByRecursion}
use Rattle.ntx_syntax.specs.declared.fault.SyntaxWhy.{SyntaxWhy}
use Rattle.ntx_syntax.specs.declared.fault.SyntaxWhy.TheVariants as why
use Rattle.ntx_syntax.specs.Terminals.{same_terminal}
use Rattle.ntx_parse.specs.declared.place.Place.{Place}
use Rattle.ntx_syntax.specs.declared.terminal.Terminal.{Terminal}
use Rattle.ntx_syntax.specs.declared.terminal.Terminal.TheVariants as terminal
use Rattle.ntx_parse.specs.Words.{Word}
use Rattle.ntx_parse.specs.Grammar.{Placed, Is, IsAllowed, max_nesting}
use Rattle.ntx_parse.specs.inner.Reading.{Answer, Stop, read, stopped, and_then, begins, take_word, expect_word}
use Rattle.ntx_parse.proofs.complete.Begins.{plain}
use Rattle.ntx_parse.proofs.TerminalLemmas.{other_terminal, begins-is}

-- A relation of a tree, the placed words at whose beginning it stands, and those after it.
abbrev pub Phrase : Type 0 → Type 1
Phrase A = A → List Placed → List Placed → Type 0

abbrev pub AreAllowed : List Placed → Type 0
AreAllowed placed = AllByRecursion IsAllowed placed

-- The words can be placed before these, so that the phrase stands at their beginning and they are allowed where these are.
pub record IsSpelled {A : Type 0} (D : Phrase A) (words : List Word) (x : A) (behind : List Placed) : Type 0 where
  pub placed : List Placed
  pub words_are : plain placed ≡ words
  pub derives : D x placed behind
  pub allowed : AreAllowed behind → AreAllowed placed

-- What is read from these words, if anything is, stands at their beginning.
pub record IsSound {A : Type 0} (D : Phrase A) (words : List Word) (answer : Answer A) : Type 0 where
  pub holds : (x : A) (behind : List Placed) → answer ≡ read x (plain behind) → IsSpelled D words x behind

-- ---- answers and their parts

pub read-injective : {A : Type 0} {found other : A × List Word} → ◌≡◌ {A = Answer A} (Some (Ok found)) (Some (Ok other)) → found ≡ other
read-injective e = cc

pub not_read : {A : Type 0} {X : Type 0} {found : A × List Word} (stop : Stop) → ◌≡◌ {A = Answer A} (Some (Err stop)) (Some (Ok found)) → X
not_read stop e = absurd cc

nothing_read : {A : Type 0} {X : Type 0} {found : A × List Word} → ◌≡◌ {A = Answer A} None (Some (Ok found)) → X
nothing_read e = absurd cc

-- What is read after a part comes from what the part is and what is after it.
pub parts_read : {A B : Type 0} (a : Answer A) (next : A → List Word → Answer B) (y : B) (rest : List Word) → and_then a next ≡ read y rest → (x : A) × (middle : List Word) × (a ≡ read x middle) × (next x middle ≡ read y rest)
parts_read None next y rest e = nothing_read e
parts_read (Some (Err stop)) next y rest e = not_read stop e
parts_read (Some (Ok found)) next y rest e = (found.0, found.1, refl, e)

module _ {A : Type 0} {D : Phrase A} {words : List Word} where
  pub sound_nothing : IsSound D words None
  sound_nothing = record { holds = λ x behind e. nothing_read e }

  pub sound_stopped : {why : SyntaxWhy} {rest : List Word} → IsSound D words (stopped why rest)
  sound_stopped = record { holds = λ x behind e. not_read _ e }

  pub sound_read : {x : A} → ((behind : List Placed) → plain behind ≡ words → D x behind behind) → IsSound D words (read x words)
  sound_read {x} h = record {
    holds = λ y behind e.
        let same = read-injective e in
        let left : words ≡ plain behind = ap (λ f. f.1) same in
        record {
          placed = behind;
          words_are = sym left;
          derives = subst (λ z. D z behind behind) (ap (λ f. f.0) same) (h behind (sym left));
          allowed = λ allowed. allowed;
        };
  }

  pub sound_if : {one other : Answer A} (test : Bool) → (test ≡ true → IsSound D words one) → (test ≡ false → IsSound D words other) → IsSound D words (cond test one other)
  sound_if true h g = h refl
  sound_if false h g = g refl

  pub sound_as : {E : Phrase A} {answer : Answer A} → IsSound E words answer → ((x : A) (placed behind : List Placed) → E x placed behind → D x placed behind) → IsSound D words answer
  sound_as h f = record {
    holds = λ x behind e.
        let found = h.holds x behind e in
        record { placed = found.placed; words_are = found.words_are; derives = f x found.placed behind found.derives; allowed = found.allowed };
  }

-- After a part that is this, what completes it to this phrase.
abbrev pub Completes : {A B : Type 0} → Phrase A → A → Phrase B → Phrase B
Completes D x F = λ y placed behind. (start : List Placed) → D x start placed → F y start behind

pub sound_then : {A B : Type 0} {D : Phrase A} {F : Phrase B} {words : List Word} {a : Answer A} {next : A → List Word → Answer B} → IsSound D words a → ((x : A) (rest : List Word) → IsSound (Completes D x F) rest (next x rest)) → IsSound F words (and_then a next)
sound_then {D = D} {a = a} {next = next} h g = record {
  holds = λ y behind e.
      let parts = parts_read a next y (plain behind) e in
      let x = parts.0 in
      let second = (g x parts.1).holds y behind parts.3 in
      let first = h.holds x second.placed (parts.2 ∙ ap (read x) (sym second.words_are)) in
      record {
        placed = first.placed;
        words_are = first.words_are;
        derives = second.derives first.placed first.derives;
        allowed = λ allowed. first.allowed (second.allowed allowed);
      };
}

-- Nothing is read where what comes after always stops.
pub sound_never : {A B : Type 0} {F : Phrase B} {words : List Word} (a : Answer A) (next : A → List Word → Answer B) → ((x : A) (rest : List Word) → (stop : Stop) × (next x rest ≡ Some (Err stop))) → IsSound F words (and_then a next)
sound_never a next h = record {
  holds = λ y behind e.
      let parts = parts_read a next y (plain behind) e in
      let stops = h parts.0 parts.1 in
      not_read stops.0 (sym stops.1 ∙ parts.3);
}

-- What is read begins the words.
pub sound_spelled : {A : Type 0} {D : Phrase A} {words : List Word} {answer : Answer A} → IsSound D words answer → IsSound (λ x placed behind. (plain placed ≡ words) × D x placed behind) words answer
sound_spelled h = record {
  holds = λ x behind e.
      let found = h.holds x behind e in
      record { placed = found.placed; words_are = found.words_are; derives = (found.words_are, found.derives); allowed = found.allowed };
}

-- ---- words

-- This word, which is this terminal, at this place.
pub data IsTaken : Place → Terminal → Word → List Placed → List Placed → Type 0 where
  word_taken : {p : Place} {t : Terminal} {o : Placed} {rest : List Placed} → Is p t o → IsTaken p t o.word (o ∷ rest) rest

-- It is no `break`.
abbrev pub IsOther : Terminal → Type 0
IsOther t = same_terminal t terminal.Break ≡ false

taken_if : (p : Place) (t : Terminal) (o : Word) (words : List Word) (fits : Bool) → nat_le p.nesting max_nesting ≡ fits → (t ≡ terminal.Break → p.in_loop ≡ true) → o.is ≡ t → IsSound (IsTaken p t) (o ∷ words) (cond fits (read o words) (stopped why.Depth (o ∷ words)))
taken_if p t o words false fits looped is = sound_stopped
taken_if p t o words true fits looped is = record {
  holds = λ x behind e.
      let same = read-injective e in
      let left : words ≡ plain behind = ap (λ f. f.1) same in
      let first : Placed = record { word = o; place = p } in
      record {
        placed = first ∷ behind;
        words_are = ap (λ rest. o ∷ rest) (sym left);
        derives = subst (λ z. IsTaken p t z (first ∷ behind) behind) (ap (λ f. f.0) same) (word_taken (record { is = is; place = refl }));
        allowed = λ allowed. (record { nesting = leb-true p.nesting max_nesting fits; in_loop = λ breaks. looped (sym is ∙ breaks) }, allowed);
      };
}

pub sound_taken_where : (p : Place) (t : Terminal) (words : List Word) → (t ≡ terminal.Break → p.in_loop ≡ true) → begins t words ≡ true → IsSound (IsTaken p t) words (take_word p words)
sound_taken_where p t [] looped h = absurd (false≢true h)
sound_taken_where p t (o ∷ words) looped h = taken_if p t o words (nat_le p.nesting max_nesting) refl looped (begins-is t o words h)

pub sound_taken : (p : Place) (t : Terminal) (words : List Word) → IsOther t → begins t words ≡ true → IsSound (IsTaken p t) words (take_word p words)
sound_taken p t words other h = sound_taken_where p t words (λ breaks. absurd (other_terminal t terminal.Break other breaks)) h

pub sound_expected : (p : Place) (t : Terminal) (words : List Word) → IsOther t → IsSound (IsTaken p t) words (expect_word p t words)
sound_expected p t words other = sound_if (begins t words) (λ h. sound_taken p t words other h) (λ _. sound_stopped)

-- what is read where the words begin with this, and what is read otherwise
pub sound_where : {A : Type 0} {D : Phrase A} {next : Word → List Word → Answer A} {otherwise : Answer A} (p : Place) (t : Terminal) (words : List Word) → IsOther t → ((o : Word) (rest : List Word) → IsSound (Completes (IsTaken p t) o D) rest (next o rest)) → (begins t words ≡ false → IsSound D words otherwise) → IsSound D words (cond (begins t words) (and_then (take_word p words) next) otherwise)
sound_where p t words other h g = sound_if (begins t words) (λ is. sound_then (sound_taken p t words other is) h) g
