-- What a reading tells, said of one answer: the words that it reads stand before other words too, and where it stops, some words complete what it read so
-- far to the phrase that it reads. There are also words that are such a phrase, whatever was read.
--     IsViable b c D words answer    all three, of a phrase D, with c for what may follow it, and b for what it follows on
use Rattle.std.proofs.Common.{◌≡◌, ◌<◌, ◌≤◌, false, List, [], ◌∷◌, ◌++◌, None, Some, Ok, Err, IsSome, refl, sym, ap, ◌∙◌, subst, append_assoc}
use Rattle.std.proofs.lemmas.List.{map-append}
use Rattle.std.specs.List.{AllByRecursion}
use Rattle.ntx_syntax.specs.declared.fault.SyntaxWhy.{SyntaxWhy}
use Rattle.ntx_syntax.specs.declared.fault.SyntaxWhy.TheVariants as why
use Rattle.ntx_syntax.specs.Values.{numeral_value, text_value}
use Rattle.ntx_parse.specs.declared.place.Place.{Place}
use Rattle.ntx_syntax.specs.declared.terminal.Terminal.TheVariants as terminal
use Rattle.ntx_parse.specs.Words.{Word}
use Rattle.ntx_parse.specs.Grammar.{Placed, max_nesting}
use Rattle.ntx_parse.specs.Faults.{at_place}
use Rattle.ntx_parse.specs.inner.Reading.{Answer, Stop, read, and_then, begins}
use Rattle.ntx_parse.proofs.complete.Begins.{plain}
use Rattle.ntx_parse.proofs.sound.Answers.{Phrase, AreAllowed, Completes, parts_read}

-- What may follow: any words, or those that do not begin with a parenthesis, which would open the arguments of a call.
pub data Ends : Type 0 where
  any_words : Ends
  no_call : Ends

abbrev pub MayFollow : Ends → List Word → Type 0
MayFollow any_words words = Unit {0}
MayFollow no_call words = begins terminal.LeftParenthesis words ≡ false

-- If it is a numeral or a text, it has a value.
pub record HasValue (o : Word) : Type 0 where
  pub numeral : o.is ≡ terminal.Numeral → IsSome (numeral_value o.spelled)
  pub text : o.is ≡ terminal.Text → IsSome (text_value o.spelled)

abbrev pub EachHasValue : List Word → Type 0
EachHasValue words = AllByRecursion HasValue words

-- ---- the three things that are told

-- The words up to the rest have places at which they are this phrase, before the rest and before all else that may follow if the rest may. Together with
-- that they may follow on what these words may follow on.
pub record IsFront {A : Type 0} (b c : Ends) (D : Phrase A) (words : List Word) (x : A) (rest : List Word) : Type 0 where
  pub front : List Placed
  pub words_are : words ≡ plain front ++ rest
  pub allowed : AreAllowed front
  pub derives : (behind : List Placed) → (MayFollow c rest → MayFollow c (plain behind)) → D x (front ++ behind) behind
  pub begins : (behind : List Placed) → (MayFollow c rest → MayFollow c (plain behind)) → MayFollow b words → MayFollow b (plain (front ++ behind))

-- Some words complete these to the phrase, before all that may follow.
pub record IsCompleted {A : Type 0} (b c : Ends) (D : Phrase A) (words : List Word) (upto : List Placed) : Type 0 where
  pub others : List Placed
  pub tree : A
  pub derives : (behind : List Placed) → MayFollow c (plain behind) → D tree (upto ++ (others ++ behind)) behind
  pub begins : (behind : List Placed) → MayFollow c (plain behind) → MayFollow b words → MayFollow b (plain (upto ++ (others ++ behind)))

-- What is wrong with the first of the words; and that word at its place, if it is not one that something else is expected for.
pub data IsWrongWord : SyntaxWhy → List Word → List Placed → Type 0 where
  not_expected : {words : List Word} → IsWrongWord why.Expected words []
  too_deep : {o : Word} {behind : List Word} {p : Place} → max_nesting < p.nesting → IsWrongWord why.Depth (o ∷ behind) (at_place o p ∷ [])
  no_loop : {o : Word} {behind : List Word} {p : Place} → p.nesting ≤ max_nesting → o.is ≡ terminal.Break → p.in_loop ≡ false → IsWrongWord why.Break (o ∷ behind) (at_place o p ∷ [])

-- The words before the stop have places at which they can be completed, together with the word of the stop if it is too deep there or is a `break`.
pub record IsStuck {A : Type 0} (b c : Ends) (D : Phrase A) (words : List Word) (s : Stop) : Type 0 where
  pub front : List Placed
  pub words_are : words ≡ plain front ++ s.words
  pub allowed : AreAllowed front
  pub last : List Placed
  pub wrong : IsWrongWord s.why s.words last
  pub completed : IsCompleted b c D words (front ++ last)

-- Some words are the phrase, before all that may follow.
pub record HasPhrase {A : Type 0} (b c : Ends) (D : Phrase A) : Type 0 where
  pub others : List Placed
  pub tree : A
  pub derives : (behind : List Placed) → MayFollow c (plain behind) → D tree (others ++ behind) behind
  pub begins : (behind : List Placed) → MayFollow c (plain behind) → MayFollow b (plain (others ++ behind))

pub record IsViable {A : Type 0} (b c : Ends) (D : Phrase A) (words : List Word) (answer : Answer A) : Type 0 where
  pub whole : HasPhrase b c D
  pub reads : EachHasValue words → (x : A) (rest : List Word) → answer ≡ read x rest → IsFront b c D words x rest
  pub stops : EachHasValue words → (s : Stop) → answer ≡ Some (Err s) → IsStuck b c D words s

-- ---- answers and lists

pub stop-injective : {A : Type 0} {stop other : Stop} → ◌≡◌ {A = Answer A} (Some (Err stop)) (Some (Err other)) → stop ≡ other
stop-injective e = cc

values_behind : (front : List Placed) (rest : List Word) → EachHasValue (plain front ++ rest) → EachHasValue rest
values_behind [] rest h = h
values_behind (o ∷ front) rest h = values_behind front rest h.1

regroup : (a b c d : List Placed) → a ++ b ++ c ++ d ≡ a ++ (b ++ c ++ d)
regroup a b c d = ap (λ z. z ++ d) (append_assoc a b c) ∙ append_assoc a (b ++ c) d

spelled_twice : (one two : List Placed) (rest words middle : List Word) → words ≡ plain one ++ middle → middle ≡ plain two ++ rest → words ≡ plain (one ++ two) ++ rest
spelled_twice one two rest words middle e h =
    e ∙ ap (λ z. plain one ++ z) h ∙ sym (append_assoc (plain one) (plain two) rest) ∙ ap (λ z. z ++ rest) (sym (map-append (λ o. o.word) one two))

pub allowed_twice : (one two : List Placed) → AreAllowed one → AreAllowed two → AreAllowed (one ++ two)
allowed_twice [] two f g = g
allowed_twice (o ∷ one) two f g = (f.0, allowed_twice one two f.1 g)

-- ---- one reading, and after it another

module _ {A B : Type 0} {b m c : Ends} {D : Phrase A} {F : Phrase B} where
  pub whole_then : (w : HasPhrase b m D) → HasPhrase m c (Completes D w.tree F) → HasPhrase b c F
  whole_then w v = record {
    others = w.others ++ v.others;
    tree = v.tree;
    derives = λ behind h. subst (λ z. F v.tree z behind) (sym (append_assoc w.others v.others behind)) (v.derives behind h (w.others ++ (v.others ++ behind)) (w.derives (v.others ++ behind) (v.begins behind h)));
    begins = λ behind h. subst (λ z. MayFollow b (plain z)) (sym (append_assoc w.others v.others behind)) (w.begins (v.others ++ behind) (v.begins behind h));
  }

  completed_then : {words : List Word} {upto : List Placed} → (w : IsCompleted b m D words upto) → HasPhrase m c (Completes D w.tree F) → IsCompleted b c F words upto
  completed_then {upto = upto} w v = record {
    others = w.others ++ v.others;
    tree = v.tree;
    derives = λ behind h. subst (λ z. F v.tree (upto ++ z) behind) (sym (append_assoc w.others v.others behind)) (v.derives behind h (upto ++ (w.others ++ (v.others ++ behind))) (w.derives (v.others ++ behind) (v.begins behind h)));
    begins = λ behind h k. subst (λ z. MayFollow b (plain (upto ++ z))) (sym (append_assoc w.others v.others behind)) (w.begins (v.others ++ behind) (v.begins behind h) k);
  }

  stuck_then : {words : List Word} {s : Stop} → (first : IsStuck b m D words s) → HasPhrase m c (Completes D first.completed.tree F) → IsStuck b c F words s
  stuck_then first v = record { front = first.front; words_are = first.words_are; allowed = first.allowed; last = first.last; wrong = first.wrong; completed = completed_then first.completed v }

  front_then : {words middle rest : List Word} {x : A} {y : B} → IsFront b m D words x middle → IsFront m c (Completes D x F) middle y rest → IsFront b c F words y rest
  front_then {words} {middle} {rest} {x} {y} first second = record {
    front = first.front ++ second.front;
    words_are = spelled_twice first.front second.front rest words middle first.words_are second.words_are;
    allowed = allowed_twice first.front second.front first.allowed second.allowed;
    derives = λ behind h. subst (λ z. F y z behind) (sym (append_assoc first.front second.front behind)) (second.derives behind h (first.front ++ (second.front ++ behind)) (first.derives (second.front ++ behind) (second.begins behind h)));
    begins = λ behind h k. subst (λ z. MayFollow b (plain z)) (sym (append_assoc first.front second.front behind)) (first.begins (second.front ++ behind) (second.begins behind h) k);
  }

  stuck_behind : {words middle : List Word} {x : A} {s : Stop} → IsFront b m D words x middle → IsStuck m c (Completes D x F) middle s → IsStuck b c F words s
  stuck_behind {words} {middle} {x} {s} first second =
      let w = second.completed in
      record {
        front = first.front ++ second.front;
        words_are = spelled_twice first.front second.front s.words words middle first.words_are second.words_are;
        allowed = allowed_twice first.front second.front first.allowed second.allowed;
        last = second.last;
        wrong = second.wrong;
        completed = record {
          others = w.others;
          tree = w.tree;
          derives = λ behind h. subst (λ z. F w.tree z behind) (sym (regroup first.front second.front second.last (w.others ++ behind)))
              (w.derives behind h (first.front ++ (second.front ++ second.last ++ (w.others ++ behind))) (first.derives (second.front ++ second.last ++ (w.others ++ behind)) (w.begins behind h)));
          begins = λ behind h k. subst (λ z. MayFollow b (plain z)) (sym (regroup first.front second.front second.last (w.others ++ behind)))
              (first.begins (second.front ++ second.last ++ (w.others ++ behind)) (w.begins behind h) k);
        };
      }

  stops_then : {words : List Word} (a : Answer A) (next : A → List Word → Answer B) → IsViable b m D words a → ((x : A) (rest : List Word) → IsViable m c (Completes D x F) rest (next x rest)) → EachHasValue words → (s : Stop) → and_then a next ≡ Some (Err s) → IsStuck b c F words s
  stops_then None next h g values s e = absurd cc
  stops_then (Some (Err stop)) next h g values s e = let first = h.stops values s (ap (λ z. Some (Err z)) (stop-injective e)) in stuck_then first (g first.completed.tree []).whole
  stops_then (Some (Ok found)) next h g values s e =
      let first = h.reads values found.0 found.1 refl in
      stuck_behind first ((g found.0 found.1).stops (values_behind first.front found.1 (subst EachHasValue first.words_are values)) s e)

  pub viable_then : {words : List Word} {a : Answer A} {next : A → List Word → Answer B} → IsViable b m D words a → ((x : A) (rest : List Word) → IsViable m c (Completes D x F) rest (next x rest)) → IsViable b c F words (and_then a next)
  viable_then {words} {a} {next} h g = record {
    whole = whole_then h.whole (g h.whole.tree []).whole;
    reads = λ values y rest e.
        let parts = parts_read a next y rest e in
        let first = h.reads values parts.0 parts.1 parts.2 in
        front_then first ((g parts.0 parts.1).reads (values_behind first.front parts.1 (subst EachHasValue first.words_are values)) y rest parts.3);
    stops = stops_then a next h g;
  }
