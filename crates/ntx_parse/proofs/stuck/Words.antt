-- Answers of one word or none: what they tell.
use Rattle.std.proofs.Common.{◌≡◌, Bool, true, false, List, [], ◌∷◌, ◌++◌, None, Some, Ok, Err, cond, nat_eq, nat_le, refl, sym, ◌∙◌, subst, leb-true, leb-false}
use Rattle.std.proofs.lemmas.Bool.{false≢true, true≢false}
use Rattle.ntx_syntax.specs.declared.fault.SyntaxWhy.TheVariants as why
use Rattle.ntx_syntax.specs.Terminals.{same_terminal}
use Rattle.ntx_parse.specs.declared.place.Place.{Place}
use Rattle.ntx_syntax.specs.declared.terminal.Terminal.{Terminal}
use Rattle.ntx_syntax.specs.declared.terminal.Terminal.TheVariants as terminal
use Rattle.ntx_parse.specs.Words.{Word}
use Rattle.ntx_parse.specs.Grammar.{Placed, IsAllowed, max_nesting}
use Rattle.ntx_parse.specs.Faults.{at_place}
use Rattle.ntx_parse.specs.inner.Reading.{Answer, Stop, read, stopped, and_then, begins, take_word, expect_word}
use Rattle.ntx_parse.proofs.TerminalLemmas.{other_terminal, begins-is}
use Rattle.ntx_parse.proofs.complete.Begins.{plain}
use Rattle.ntx_parse.proofs.sound.Answers.{Phrase, Completes, IsTaken, word_taken, IsOther, read-injective, not_read}
use Rattle.ntx_parse.proofs.stuck.Answers.{Ends, any_words, no_call, MayFollow, EachHasValue, IsFront, IsWrongWord, not_expected, too_deep, IsStuck, HasPhrase, IsViable, stop-injective, viable_then}

not_stopped : {A X : Type 0} {found : A × List Word} {stop : Stop} → ◌≡◌ {A = Answer A} (Some (Ok found)) (Some (Err stop)) → X
not_stopped e = absurd cc

first_counts : (b : Ends) (o : Word) (words others : List Word) → MayFollow b (o ∷ words) → MayFollow b (o ∷ others)
first_counts any_words o words others h = tt
first_counts no_call o words others h = h

-- This word at this place is the phrase.
abbrev pub IsWordOf : {A : Type 0} → Phrase A → Word → Place → A → Type 0
IsWordOf D o p x = (behind : List Placed) → D x (at_place o p ∷ behind) behind

-- ---- no word, and one

module _ {A : Type 0} {D : Phrase A} where
  pub viable_nothing : {b c : Ends} {words : List Word} → HasPhrase b c D → IsViable b c D words None
  viable_nothing w = record { whole = w; reads = λ values x rest e. absurd cc; stops = λ values s e. absurd cc }

  pub viable_read : {c : Ends} {words : List Word} {x : A} → ((behind : List Placed) → (MayFollow c words → MayFollow c (plain behind)) → D x behind behind) → IsViable c c D words (read x words)
  viable_read {c} {words} {x} h = record {
    whole = record { others = []; tree = x; derives = λ behind f. h behind (λ _. f); begins = λ behind f. f };
    reads = λ values y rest e. subst (λ f. IsFront c c D words f.0 f.1) (read-injective e) (record {
      front = [];
      words_are = refl;
      allowed = tt;
      derives = h;
      begins = λ behind f w. f w;
    });
    stops = λ values s e. not_stopped e;
  }

  pub viable_stopped : {b c : Ends} {words : List Word} → HasPhrase b c D → IsViable b c D words (stopped why.Expected words)
  viable_stopped {b} {c} {words} w = record {
    whole = w;
    reads = λ values x rest e. not_read _ e;
    stops = λ values s e. subst (λ z. IsStuck b c D words z) (stop-injective e) (record {
      front = [];
      words_are = refl;
      allowed = tt;
      last = [];
      wrong = not_expected;
      completed = record { others = w.others; tree = w.tree; derives = w.derives; begins = λ behind h _. w.begins behind h };
    });
  }

  pub viable_wrong : {b c : Ends} {s : Stop} (p : Place) (o : Word) (words : List Word) → HasPhrase b c D → s.words ≡ o ∷ words → IsWrongWord s.why s.words (at_place o p ∷ []) → (EachHasValue (o ∷ words) → (x : A) × IsWordOf D o p x) → IsViable b c D (o ∷ words) (Some (Err s))
  viable_wrong {b} {c} {s} p o words w same wrong h = record {
    whole = w;
    reads = λ values x rest e. not_read _ e;
    stops = λ values other e. subst (λ z. IsStuck b c D (o ∷ words) z) (stop-injective e) (record {
      front = [];
      words_are = sym same;
      allowed = tt;
      last = at_place o p ∷ [];
      wrong = wrong;
      completed = let found = h values in record { others = []; tree = found.0; derives = λ behind _. found.1 behind; begins = λ behind _. first_counts b o words (plain behind) };
    });
  }

  pub viable_one : {b c : Ends} {x : A} (p : Place) (o : Word) (words : List Word) → HasPhrase b c D → IsAllowed (at_place o p) → IsWordOf D o p x → IsViable b c D (o ∷ words) (read x words)
  viable_one {b} {c} {x} p o words w allowed h = record {
    whole = w;
    reads = λ values y rest e. subst (λ f. IsFront b c D (o ∷ words) f.0 f.1) (read-injective e) (record {
      front = at_place o p ∷ [];
      words_are = refl;
      allowed = (allowed, tt);
      derives = λ behind _. h behind;
      begins = λ behind _. first_counts b o words (plain behind);
    });
    stops = λ values s e. not_stopped e;
  }

  pub viable_if : {b c : Ends} {words : List Word} {one other : Answer A} (test : Bool) → (test ≡ true → IsViable b c D words one) → (test ≡ false → IsViable b c D words other) → IsViable b c D words (cond test one other)
  viable_if true h g = h refl
  viable_if false h g = g refl

  -- What is a phrase before any words is one before these.
  pub opened : {b c : Ends} {words : List Word} {answer : Answer A} → IsViable b c D words answer → IsViable any_words c D words answer
  opened h = record {
    whole = record { others = h.whole.others; tree = h.whole.tree; derives = h.whole.derives; begins = λ _ _. tt };
    reads = λ values x rest e. let f = h.reads values x rest e in record { front = f.front; words_are = f.words_are; allowed = f.allowed; derives = f.derives; begins = λ _ _ _. tt };
    stops = λ values s e.
        let f = h.stops values s e in
        let w = f.completed in
        record { front = f.front; words_are = f.words_are; allowed = f.allowed; last = f.last; wrong = f.wrong; completed = record { others = w.others; tree = w.tree; derives = w.derives; begins = λ _ _ _. tt } };
  }

  -- Words that begin with a parenthesis are no others that do not.
  pub viable_parenthesis : {b c : Ends} {words : List Word} {answer : Answer A} → HasPhrase no_call c D → begins terminal.LeftParenthesis words ≡ true → IsViable b c D words answer → IsViable no_call c D words answer
  viable_parenthesis w is h = record {
    whole = w;
    reads = λ values x rest e. let f = h.reads values x rest e in record { front = f.front; words_are = f.words_are; allowed = f.allowed; derives = f.derives; begins = λ _ _ none. absurd (true≢false (sym is ∙ none)) };
    stops = λ values s e.
        let f = h.stops values s e in
        let w = f.completed in
        record { front = f.front; words_are = f.words_are; allowed = f.allowed; last = f.last; wrong = f.wrong; completed = record { others = w.others; tree = w.tree; derives = w.derives; begins = λ _ _ none. absurd (true≢false (sym is ∙ none)) } };
  }

  pub viable_as : {b c : Ends} {E : Phrase A} {words : List Word} {answer : Answer A} → IsViable b c E words answer → ((x : A) (placed behind : List Placed) → E x placed behind → D x placed behind) → IsViable b c D words answer
  viable_as h g = record {
    whole = record { others = h.whole.others; tree = h.whole.tree; derives = λ behind k. g h.whole.tree (h.whole.others ++ behind) behind (h.whole.derives behind k); begins = h.whole.begins };
    reads = λ values x rest e. let f = h.reads values x rest e in record { front = f.front; words_are = f.words_are; allowed = f.allowed; derives = λ behind k. g x (f.front ++ behind) behind (f.derives behind k); begins = f.begins };
    stops = λ values s e.
        let f = h.stops values s e in
        let w = f.completed in
        record {
          front = f.front;
          words_are = f.words_are;
          allowed = f.allowed;
          last = f.last;
          wrong = f.wrong;
          completed = record { others = w.others; tree = w.tree; derives = λ behind k. g w.tree (f.front ++ f.last ++ (w.others ++ behind)) behind (w.derives behind k); begins = w.begins };
        };
  }

-- ---- words

-- It opens no parenthesis.
abbrev pub IsNoCall : Terminal → Type 0
IsNoCall t = same_terminal t terminal.LeftParenthesis ≡ false

-- a word that is this
abbrev pub some_word : Terminal → Word
some_word t = record { is = t; spelled = []; line = 0 }

pub taken_phrase : {c : Ends} (b : Ends) (p : Place) (t : Terminal) → MayFollow b (some_word t ∷ []) → HasPhrase b c (IsTaken p t)
taken_phrase b p t h = record {
  others = at_place (some_word t) p ∷ [];
  tree = some_word t;
  derives = λ behind _. word_taken (record { is = refl; place = refl });
  begins = λ behind _. first_counts b (some_word t) [] (plain behind) h;
}

taken_if : {b c : Ends} (p : Place) (t : Terminal) (o : Word) (words : List Word) (fits : Bool) → nat_le p.nesting max_nesting ≡ fits → (t ≡ terminal.Break → p.in_loop ≡ true) → o.is ≡ t → HasPhrase b c (IsTaken p t) → IsViable b c (IsTaken p t) (o ∷ words) (cond fits (read o words) (stopped why.Depth (o ∷ words)))
taken_if p t o words false fits looped is w = viable_wrong p o words w refl (too_deep (leb-false p.nesting max_nesting fits)) (λ _. (o, λ behind. word_taken (record { is = is; place = refl })))
taken_if p t o words true fits looped is w = viable_one p o words w (record { nesting = leb-true p.nesting max_nesting fits; in_loop = λ breaks. looped (sym is ∙ breaks) }) (λ behind. word_taken (record { is = is; place = refl }))

taken_where : {b c : Ends} (p : Place) (t : Terminal) (words : List Word) → (t ≡ terminal.Break → p.in_loop ≡ true) → HasPhrase b c (IsTaken p t) → begins t words ≡ true → IsViable b c (IsTaken p t) words (take_word p words)
taken_where p t [] looped w h = absurd (false≢true h)
taken_where p t (o ∷ words) looped w h = taken_if p t o words (nat_le p.nesting max_nesting) refl looped (begins-is t o words h) w

no_break : (p : Place) (t : Terminal) → IsOther t → t ≡ terminal.Break → p.in_loop ≡ true
no_break p t other breaks = absurd (other_terminal t terminal.Break other breaks)

pub viable_taken_where : (c : Ends) (p : Place) (t : Terminal) (words : List Word) → (t ≡ terminal.Break → p.in_loop ≡ true) → IsNoCall t → begins t words ≡ true → IsViable no_call c (IsTaken p t) words (take_word p words)
viable_taken_where c p t words looped none h = taken_where p t words looped (taken_phrase no_call p t none) h

pub viable_taken : (c : Ends) (p : Place) (t : Terminal) (words : List Word) → IsOther t → IsNoCall t → begins t words ≡ true → IsViable no_call c (IsTaken p t) words (take_word p words)
viable_taken c p t words other none h = viable_taken_where c p t words (no_break p t other) none h

pub viable_expected : (c : Ends) (p : Place) (t : Terminal) (words : List Word) → IsOther t → IsNoCall t → IsViable no_call c (IsTaken p t) words (expect_word p t words)
viable_expected c p t words other none = viable_if (begins t words) (λ h. viable_taken c p t words other none h) (λ _. viable_stopped (taken_phrase no_call p t none))

-- an opening parenthesis, after any words
pub viable_open : (c : Ends) (p : Place) (words : List Word) → IsViable any_words c (IsTaken p terminal.LeftParenthesis) words (expect_word p terminal.LeftParenthesis words)
viable_open c p words =
    let w : HasPhrase any_words c (IsTaken p terminal.LeftParenthesis) = taken_phrase any_words p terminal.LeftParenthesis tt in
    viable_if (begins terminal.LeftParenthesis words) (λ h. taken_where p terminal.LeftParenthesis words (no_break p terminal.LeftParenthesis refl) w h) (λ _. viable_stopped w)

-- what is read where the words begin with this, and what is read otherwise
pub viable_where : {A : Type 0} {D : Phrase A} {c : Ends} {next : Word → List Word → Answer A} {otherwise : Answer A} (m : Ends) (p : Place) (t : Terminal) (words : List Word) → IsOther t → IsNoCall t → ((o : Word) (rest : List Word) → IsViable m c (Completes (IsTaken p t) o D) rest (next o rest)) → (begins t words ≡ false → IsViable no_call c D words otherwise) → IsViable no_call c D words (cond (begins t words) (and_then (take_word p words) next) otherwise)
viable_where m p t words other none h g = viable_if (begins t words) (λ is. viable_then (viable_taken m p t words other none is) h) g
