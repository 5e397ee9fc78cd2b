-- Two readings side by side. They stand before words that are alike, until the first comes to words that are of no interest: what it tells is lost then.
--     View                     which words are alike, and which are lost
--     At V s words others      these words are in this situation: they are lost, or alike
--     Goes V s a b             the second answer is the same as the first, before words that are alike, or what the first tells is lost, or the first stops
--                              and the second is nothing, where its calls can be too few
use Rattle.std.proofs.Common.{◌≡◌, Bool, true, false, List, [], ◌∷◌, ◌⊎◌, inl, inr, None, Some, Ok, Err, cond, nat_le, refl, sym, ap, subst}
use Rattle.ntx_syntax.specs.declared.fault.SyntaxWhy.{SyntaxWhy}
use Rattle.ntx_syntax.specs.declared.fault.SyntaxWhy.TheVariants as why
use Rattle.ntx_parse.specs.declared.place.Place.{Place}
use Rattle.ntx_syntax.specs.declared.terminal.Terminal.{Terminal}
use Rattle.ntx_parse.specs.Words.{Word}
use Rattle.ntx_parse.specs.Grammar.{max_nesting}
use Rattle.ntx_parse.specs.inner.Reading.{Answer, Stop, read, stopped, and_then, begins, take_word, expect_word}

-- Words that begin alike: both are none, or they have the same first word, after which they are lost or alike.
pub data Begin (Lost : List Word → Type 0) (Alike : List Word → List Word → Type 0) : List Word → List Word → Type 0 where
  both_end : Begin Lost Alike [] []
  then_lost : {o : Word} {words others : List Word} → Lost words → Begin Lost Alike (o ∷ words) (o ∷ others)
  then_alike : {o : Word} {words others : List Word} → Alike words others → Begin Lost Alike (o ∷ words) (o ∷ others)

-- `Lost words`: what is told before these words is of no interest. `Alike words others`: one of the readings stands before these words, and the other before
-- those. Where the words after a name are lost, one may take it for the name of a field and the other for the beginning of an expression. `CanBeShort`: if it
-- is too deep, so that both are to stop at it, the second may tell nothing, since its calls are too few for an expression.
pub record View : Type 1 where
  pub Lost : List Word → Type 0
  pub CanBeShort : Type 0
  pub Alike : List Word → List Word → Type 0
  pub shorter : {o : Word} {words : List Word} → Lost (o ∷ words) → Lost words
  pub short : {o : Word} {words others : List Word} → Alike (o ∷ words) others → Lost words → CanBeShort
  pub begin : {words others : List Word} → Alike words others → Begin Lost Alike words others

-- the words are beyond those that are looked at, or they are alike
pub data Situation : Type 0 where
  lost : Situation
  alike : Situation

pub data At (V : View) : Situation → List Word → List Word → Type 0 where
  at_lost : {words : List Word} → V.Lost words → At V lost words words
  at_alike : {words others : List Word} → V.Alike words others → At V alike words others

-- The second stops for the same reason before words that are alike, or the stop is lost, or the calls of the second are too few.
pub data AlsoStops (V : View) (stop : Stop) {A : Type 0} (b : Answer A) : Type 0 where
  stop_lost : V.Lost stop.words → AlsoStops V stop b
  same_stop : {rest : List Word} → V.Alike stop.words rest → b ≡ stopped stop.why rest → AlsoStops V stop b
  too_few : V.CanBeShort → b ≡ None → AlsoStops V stop b

-- In this situation the first answer is lost, or the second is the same, before words that are alike, or the first stops and the second is nothing.
abbrev pub Tells : {A : Type 0} → View → Situation → Answer A → Answer A → Type 0
Tells V s None b = Unit {0}
Tells V lost (Some (Ok found)) b = V.Lost found.1
Tells V lost (Some (Err stop)) b = V.Lost stop.words
Tells V alike (Some (Ok found)) b = V.Lost found.1 ⊎ ((rest : List Word) × V.Alike found.1 rest × (b ≡ read found.0 rest))
Tells V alike (Some (Err stop)) b = AlsoStops V stop b

pub record Goes {A : Type 0} (V : View) (s : Situation) (a b : Answer A) : Type 0 where
  pub tells : Tells V s a b

-- What is lost is lost whatever the other answer is.
pub goes_lost : {A : Type 0} {V : View} {s : Situation} {a b c : Answer A} → Goes V lost a b → Goes V s a c
goes_lost {s = lost} {a = None} h = record { tells = tt }
goes_lost {s = lost} {a = Some (Ok found)} h = record { tells = h.tells }
goes_lost {s = lost} {a = Some (Err stop)} h = record { tells = h.tells }
goes_lost {s = alike} {a = None} h = record { tells = tt }
goes_lost {s = alike} {a = Some (Ok found)} h = record { tells = inl h.tells }
goes_lost {s = alike} {a = Some (Err stop)} h = record { tells = stop_lost h.tells }

module _ {A : Type 0} {V : View} where
  pub goes_nothing : {s : Situation} {b : Answer A} → Goes V s None b
  goes_nothing = record { tells = tt }

  pub goes_read : {s : Situation} {words others : List Word} {t : A} → At V s words others → Goes V s (read t words) (read t others)
  goes_read (at_lost h) = record { tells = h }
  goes_read (at_alike h) = record { tells = inr (_, h, refl) }

  pub goes_stopped : {s : Situation} {words others : List Word} {reason : SyntaxWhy} → At V s words others
      → Goes {A = A} V s (stopped reason words) (stopped reason others)
  goes_stopped (at_lost h) = record { tells = h }
  goes_stopped (at_alike h) = record { tells = same_stop h refl }

  pub goes_if : {s : Situation} {a b c d : Answer A} (test other : Bool) → test ≡ other → Goes V s a b → Goes V s c d
      → Goes V s (cond test a c) (cond other b d)
  goes_if true true e h g = h
  goes_if false false e h g = g
  goes_if true false e h g = absurd cc
  goes_if false true e h g = absurd cc

then_alike_by : {A B : Type 0} {V : View} (found : A × List Word) (b : Answer A) (next other : A → List Word → Answer B)
    → V.Lost found.1 ⊎ ((rest : List Word) × V.Alike found.1 rest × (b ≡ read found.0 rest))
    → ((t : A) (s : Situation) (words others : List Word) → At V s words others → Goes V s (next t words) (other t others))
    → Goes V alike (next found.0 found.1) (and_then b other)
then_alike_by found b next other (inl h) g = goes_lost (g found.0 lost found.1 found.1 (at_lost h))
then_alike_by {V = V} found b next other (inr h) g =
    subst (λ c. Goes V alike (next found.0 found.1) (and_then c other)) (sym h.2) (g found.0 alike found.1 h.0 (at_alike h.1))

then_stops : {A B : Type 0} {V : View} {stop : Stop} {b : Answer A} (other : A → List Word → Answer B) → AlsoStops V stop b
    → AlsoStops V stop (and_then b other)
then_stops other (stop_lost h) = stop_lost h
then_stops other (same_stop h e) = same_stop h (ap (λ c. and_then c other) e)
then_stops other (too_few h e) = too_few h (ap (λ c. and_then c other) e)

pub goes_then : {A B : Type 0} {V : View} {s : Situation} {a b : Answer A} {next other : A → List Word → Answer B}
    → Goes V s a b → ((t : A) (s : Situation) (words others : List Word) → At V s words others → Goes V s (next t words) (other t others))
    → Goes V s (and_then a next) (and_then b other)
goes_then {a = None} h g = goes_nothing
goes_then {s = lost} {a = Some (Err stop)} h g = record { tells = h.tells }
goes_then {s = alike} {a = Some (Err stop)} {other = other} h g = record { tells = then_stops other h.tells }
goes_then {s = lost} {a = Some (Ok found)} h g = goes_lost (g found.0 lost found.1 found.1 (at_lost h.tells))
goes_then {s = alike} {a = Some (Ok found)} {b = b} {next = next} {other = other} h g = then_alike_by found b next other h.tells g

-- ---- words

begins_alike : (V : View) {words others : List Word} (t : Terminal) → Begin V.Lost V.Alike words others → begins t words ≡ begins t others
begins_alike V t both_end = refl
begins_alike V t (then_lost h) = refl
begins_alike V t (then_alike h) = refl

pub begins_same : {V : View} {s : Situation} {words others : List Word} (t : Terminal) → At V s words others → begins t words ≡ begins t others
begins_same t (at_lost h) = refl
begins_same {V} t (at_alike h) = begins_alike V t (V.begin h)

pub goes_where : {A : Type 0} {V : View} {s : Situation} {words others : List Word} {a b c d : Answer A} (t : Terminal)
    → At V s words others → Goes V s a b → Goes V s c d → Goes V s (cond (begins t words) a c) (cond (begins t others) b d)
goes_where {words = words} {others = others} t h one other = goes_if (begins t words) (begins t others) (begins_same t h) one other

module _ {V : View} (p : Place) where
  take_if : {s : Situation} {words others : List Word} {o : Word} (fits : Bool) → Goes {A = Word} V s (read o words) (read o others)
      → Goes {A = Word} V s (stopped why.Depth (o ∷ words)) (stopped why.Depth (o ∷ others))
      → Goes {A = Word} V s (cond fits (read o words) (stopped why.Depth (o ∷ words))) (cond fits (read o others) (stopped why.Depth (o ∷ others)))
  take_if true h g = h
  take_if false h g = g

  taken_lost : (words : List Word) → V.Lost words → Goes V lost (take_word p words) (take_word p words)
  taken_lost [] h = goes_stopped (at_lost h)
  taken_lost (o ∷ words) h = take_if (nat_le p.nesting max_nesting) (goes_read (at_lost (V.shorter h))) (goes_stopped (at_lost h))

  taken_alike : {words others : List Word} → V.Alike words others → Begin V.Lost V.Alike words others → Goes V alike (take_word p words) (take_word p others)
  taken_alike same both_end = goes_stopped (at_alike same)
  taken_alike same (then_lost h) = take_if (nat_le p.nesting max_nesting) (record { tells = inl h }) (goes_stopped (at_alike same))
  taken_alike same (then_alike h) = take_if (nat_le p.nesting max_nesting) (goes_read (at_alike h)) (goes_stopped (at_alike same))

  pub goes_taken : {s : Situation} {words others : List Word} → At V s words others → Goes V s (take_word p words) (take_word p others)
  goes_taken (at_lost h) = taken_lost _ h
  goes_taken (at_alike h) = taken_alike h (V.begin h)

  pub goes_expected : {s : Situation} {words others : List Word} (t : Terminal) → At V s words others → Goes V s (expect_word p t words) (expect_word p t others)
  goes_expected t h = goes_where t h (goes_taken h) (goes_stopped h)

-- ---- words after the first

pub data Behind (V : View) : Situation → List Word → List Word → Type 0 where
  behind_lost : {s : Situation} {words others : List Word} → V.Lost words → Behind V s words others
  behind_alike : {words others : List Word} → V.Alike words others → Behind V alike words others

pub goes_read_behind : {A : Type 0} {V : View} {s : Situation} {words others : List Word} {t : A} → Behind V s words others
    → Goes V s (read t words) (read t others)
goes_read_behind {s = lost} (behind_lost h) = record { tells = h }
goes_read_behind {s = alike} (behind_lost h) = record { tells = inl h }
goes_read_behind (behind_alike h) = goes_read (at_alike h)

-- There are no words, or the first is the same.
pub data Firsts (V : View) (s : Situation) : List Word → List Word → Type 0 where
  no_first : Firsts V s [] []
  first : {o : Word} {words others : List Word} → Behind V s words others → Firsts V s (o ∷ words) (o ∷ others)

firsts_lost : {V : View} (words : List Word) → V.Lost words → Firsts V lost words words
firsts_lost [] h = no_first
firsts_lost {V} (o ∷ words) h = first (behind_lost (V.shorter h))

firsts_alike : (V : View) {words others : List Word} → Begin V.Lost V.Alike words others → Firsts V alike words others
firsts_alike V both_end = no_first
firsts_alike V (then_lost h) = first (behind_lost h)
firsts_alike V (then_alike h) = first (behind_alike h)

pub firsts : {V : View} {s : Situation} {words others : List Word} → At V s words others → Firsts V s words others
firsts (at_lost h) = firsts_lost _ h
firsts {V} (at_alike h) = firsts_alike V (V.begin h)

module _ {B : Type 0} {V : View} {s : Situation} where
  taking_if : {o : Word} {words others : List Word} (next other : Word → List Word → Answer B) (fits : Bool) → At V s (o ∷ words) (o ∷ others)
      → Goes V s (next o words) (other o others)
      → Goes V s (and_then (cond fits (read o words) (stopped why.Depth (o ∷ words))) next) (and_then (cond fits (read o others) (stopped why.Depth (o ∷ others))) other)
  taking_if next other true h g = g
  taking_if next other false h g = goes_stopped h

  taking_first : {words others : List Word} {next other : Word → List Word → Answer B} (p : Place) → At V s words others → Firsts V s words others
      → ((o : Word) (words others : List Word) → Behind V s words others → Goes V s (next o words) (other o others))
      → Goes V s (and_then (take_word p words) next) (and_then (take_word p others) other)
  taking_first p h no_first g = goes_stopped h
  taking_first {next = next} {other = other} p h (first {o} {words} {others} behind) g = taking_if next other (nat_le p.nesting max_nesting) h (g o words others behind)

  -- a word is taken, and what comes after it may stop at it
  pub goes_taking : {words others : List Word} {next other : Word → List Word → Answer B} (p : Place) → At V s words others
      → ((o : Word) (words others : List Word) → Behind V s words others → Goes V s (next o words) (other o others))
      → Goes V s (and_then (take_word p words) next) (and_then (take_word p others) other)
  goes_taking p h g = taking_first p h (firsts h) g
