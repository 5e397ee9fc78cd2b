-- Two readings side by side: tables, and a name after which nothing is looked at.
use Rattle.std.proofs.Common.{◌≡◌, ℕ, Bool, true, false, ◌||◌, ◌&&◌, nat_eq, nat_le, cond, List, [], ◌∷◌, ◌++◌, refl, ap, ap₂}
use Rattle.ntx_syntax.specs.declared.tree.Field.{Field}
use Rattle.ntx_syntax.specs.declared.tree.Field.TheVariants as field
use Rattle.ntx_syntax.specs.Terminals.{same_terminal}
use Rattle.ntx_parse.specs.declared.place.Place.{Place}
use Rattle.ntx_parse.specs.declared.precedence.Precedence.TheVariants as precedence
use Rattle.ntx_syntax.specs.declared.terminal.Terminal.TheVariants as terminal
use Rattle.ntx_parse.specs.Words.{Word}
use Rattle.ntx_parse.specs.Grammar.{within, max_nesting}
use Rattle.ntx_parse.specs.inner.Reading.{Readers, Answer, read, and_then, begins, expect_word, read_name, read_index, names_a_field, read_field, fields_behind, read_table}
use Rattle.ntx_parse.proofs.viewed.Views.{View, Situation, lost, alike, At, at_lost, at_alike, Goes, goes_lost, goes_nothing, goes_read, goes_stopped, goes_if, goes_then, goes_where, goes_taken, goes_expected, begins_same, Begin, both_end, then_lost, then_alike, too_few}
use Rattle.ntx_parse.proofs.viewed.DeepNames.{StopsDeep, tells_nothing, too_deep, deep_then, AreDeep, name_if, deep_name}
use Rattle.ntx_parse.proofs.viewed.Lists.{Go, goes_name}
use Rattle.ntx_parse.proofs.viewed.Prefixes.{goes_index}

module _ {V : View} (p : Place) (o : Word) (words : List Word) (h : V.Lost words) where
  lost_if : {B : Type 0} (fits named : Bool) (next other : Word → List Word → Answer B) → named ≡ true → fits ≡ true
      → ((rest : List Word) → V.Lost rest → Goes V lost (next o rest) (other o rest))
      → Goes V lost (and_then (name_if named fits o words) next) (and_then (name_if named fits o words) other)
  lost_if true true next other e fits g = g words h
  lost_if false named next other e fits g = absurd cc
  lost_if fits false next other e _ g = absurd cc

  -- A name before what is lost is taken, if it does not lie too deep.
  pub lost_name : same_terminal o.is terminal.Name ≡ true → nat_le p.nesting max_nesting ≡ true
      → Goes V lost (read_name p (o ∷ words)) (read_name p (o ∷ words))
  lost_name e fits = lost_if (nat_le p.nesting max_nesting) (same_terminal o.is terminal.Name) _ _ e fits (λ rest l. goes_read (at_lost l))

-- Both readings stop at a name that is too deep, or tell nothing.
goes_deep : {A : Type 0} {V : View} {words others : List Word} {a b : Answer A} → V.Alike words others → V.CanBeShort → StopsDeep words a → StopsDeep others b
    → Goes V alike a b
goes_deep same short tells_nothing d = goes_nothing
goes_deep same short too_deep too_deep = goes_stopped (at_alike same)
goes_deep same short too_deep tells_nothing = record { tells = too_few short refl }

-- [ exp ] = exp
abbrev keyed_by : Readers → Place → List Word → Answer Field
keyed_by r p words =
    and_then (read_index r (within p) words) (λ key behind.
    and_then (expect_word p terminal.Assign behind) (λ _ second.
    and_then (r.exp p precedence.Or second) (λ value rest. read (field.Keyed key value) rest)))

-- = exp, after a name
abbrev value_of : Readers → Place → List ℕ → List Word → Answer Field
value_of r p name words =
    and_then (expect_word p terminal.Assign words) (λ _ second. and_then (r.exp p precedence.Or second) (λ value rest. read (field.Named name value) rest))

-- Name = exp, and exp
abbrev named_by : Readers → Place → List Word → Answer Field
named_by r p words = and_then (read_name p words) (λ name behind. value_of r p name behind)

abbrev positional_by : Readers → Place → List Word → Answer Field
positional_by r p words = and_then (r.exp p precedence.Or words) (λ value rest. read (field.Positional value) rest)

-- the one or the other
abbrev named_or_positional : Readers → Place → Bool → List Word → Answer Field
named_or_positional r p named words = cond named (named_by r p words) (positional_by r p words)

-- A name that is too deep is not taken, be it that of a field or the beginning of a value.
deep_field : {r : Readers} → AreDeep r → (p : Place) (o : Word) (words : List Word) (test : Bool) → same_terminal o.is terminal.Name ≡ true
    → nat_le p.nesting max_nesting ≡ false → StopsDeep (o ∷ words) (named_or_positional r p test (o ∷ words))
deep_field {r} d p o words true e deep = deep_then (λ name behind. value_of r p name behind) (deep_name p o words e deep)
deep_field d p o words false e deep = deep_then (λ value rest. read (field.Positional value) rest) (d.exp p precedence.Or o words e deep)

module _ {V : View} {r other : Readers} (g : Go V r other) where
  -- ---- fields

  goes_keyed : (p : Place) {s : Situation} {words others : List Word} → At V s words others → Goes V s (keyed_by r p words) (keyed_by other p others)
  goes_keyed p h =
      goes_then (goes_index g (within p) h) (λ key _ _ _ h.
      goes_then (goes_expected p terminal.Assign h) (λ _ _ _ _ h.
      goes_then (g.exp p precedence.Or h) (λ value _ _ _ h. goes_read h)))

  goes_value_of : (p : Place) (name : List ℕ) {s : Situation} {words others : List Word} → At V s words others
      → Goes V s (value_of r p name words) (value_of other p name others)
  goes_value_of p name h = goes_then (goes_expected p terminal.Assign h) (λ _ _ _ _ h. goes_then (g.exp p precedence.Or h) (λ value _ _ _ h. goes_read h))

  goes_named : (p : Place) {s : Situation} {words others : List Word} → At V s words others → Goes V s (named_by r p words) (named_by other p others)
  goes_named p h = goes_then (goes_name p h) (λ name _ _ _ h. goes_value_of p name h)

  goes_positional : (p : Place) {s : Situation} {words others : List Word} → At V s words others
      → Goes V s (positional_by r p words) (positional_by other p others)
  goes_positional p h = goes_then (g.exp p precedence.Or h) (λ value _ _ _ h. goes_read h)

  -- Whether the name before what is lost is that of a field or begins a value, it is taken.
  lost_field : (p : Place) (o : Word) (words : List Word) (test : Bool) {s : Situation} {c : Answer Field} → same_terminal o.is terminal.Name ≡ true
      → nat_le p.nesting max_nesting ≡ true → V.Lost words → Goes V s (named_or_positional r p test (o ∷ words)) c
  lost_field p o words true e fits l = goes_lost (goes_then (lost_name p o words l e fits) (λ name _ _ _ h. goes_value_of p name h))
  lost_field p o words false e fits l = goes_lost (goes_then (g.named p precedence.Or o words e fits l) (λ value _ _ _ h. goes_read h))

  -- What it is shows after it, and is not the same in both readings. If it is too deep they stop at it all the same.
  field_with_name : (p : Place) (o : Word) {words others : List Word} (fits : Bool) (one two : Bool) → nat_le p.nesting max_nesting ≡ fits
      → same_terminal o.is terminal.Name ≡ true → V.Alike (o ∷ words) (o ∷ others) → V.Lost words
      → Goes V alike (named_or_positional r p one (o ∷ words)) (named_or_positional other p two (o ∷ others))
  field_with_name p o {words} true one two fits e same l = lost_field p o words one e fits l
  field_with_name p o {words} {others} false one two deep e same l =
      goes_deep same (V.short same l) (deep_field g.deep p o words one e deep) (deep_field g.other_deep p o others two e deep)

  field_by_name : (p : Place) {o : Word} {words others : List Word} (is_name : Bool) → same_terminal o.is terminal.Name ≡ is_name
      → V.Alike (o ∷ words) (o ∷ others) → V.Lost words
      → Goes V alike (named_or_positional r p (is_name && begins terminal.Assign words) (o ∷ words))
      (named_or_positional other p (is_name && begins terminal.Assign others) (o ∷ others))
  field_by_name p false e same l = goes_positional p (at_alike same)
  field_by_name p {o} {words} {others} true e same l =
      field_with_name p o (nat_le p.nesting max_nesting) (begins terminal.Assign words) (begins terminal.Assign others) refl e same l

  field_begins : (p : Place) {words others : List Word} → V.Alike words others → Begin V.Lost V.Alike words others
      → Goes V alike (named_or_positional r p (names_a_field words) words) (named_or_positional other p (names_a_field others) others)
  field_begins p same both_end = goes_positional p (at_alike same)
  field_begins p same (then_lost {o} l) = field_by_name p (same_terminal o.is terminal.Name) refl same l
  field_begins p same (then_alike {o} {words} {others} behind) =
      let assigns = begins_same {V = V} {words = words} {others = others} terminal.Assign (at_alike behind) in
      goes_if (names_a_field (o ∷ words)) (names_a_field (o ∷ others)) (ap (λ test. same_terminal o.is terminal.Name && test) assigns)
      (goes_named p (at_alike same)) (goes_positional p (at_alike same))

  field_at : (p : Place) {s : Situation} {words others : List Word} → At V s words others
      → Goes V s (named_or_positional r p (names_a_field words) words) (named_or_positional other p (names_a_field others) others)
  field_at p (at_lost {words} l) = goes_if (names_a_field words) (names_a_field words) refl (goes_named p (at_lost l)) (goes_positional p (at_lost l))
  field_at p (at_alike same) = field_begins p same (V.begin same)

  goes_field : (p : Place) {s : Situation} {words others : List Word} → At V s words others → Goes V s (read_field r p words) (read_field other p others)
  goes_field p h = goes_where terminal.LeftBracket h (goes_keyed p h) (field_at p h)

  -- ---- tables

  pub goes_fields : (p : Place) (before : List Field) {s : Situation} {words others : List Word} → At V s words others
      → Goes V s (fields_behind r p before words) (fields_behind other p before others)
  goes_fields p before h =
      goes_where terminal.RightBrace h (goes_read h)
      (goes_then (goes_field p h) (λ f _ _ _ h.
      goes_if _ _ (ap₂ (λ one other. one || other) (begins_same terminal.Comma h) (begins_same terminal.Semicolon h))
      (goes_then (goes_taken p h) (λ _ _ _ _ h. g.fields p (before ++ f ∷ []) h))
      (goes_read h)))

  pub goes_table : (p : Place) {s : Situation} {words others : List Word} → At V s words others → Goes V s (read_table r p words) (read_table other p others)
  goes_table p h =
      goes_then (goes_expected p terminal.LeftBrace h) (λ _ _ _ _ h.
      goes_then (g.fields p [] h) (λ fields _ _ _ h.
      goes_then (goes_expected p terminal.RightBrace h) (λ _ _ _ _ h. goes_read h)))
