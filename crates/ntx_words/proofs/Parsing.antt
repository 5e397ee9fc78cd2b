-- What `clap` answers, as the definition has it.
use Rattle.std.proofs.Common.{◌≡◌, ◌∙◌, ◌||◌, Bool, true, false, List, [], ◌∷◌, Option, None, Some, Ok, Err, refl, sym, ap, ap₂, inl, inr, codes}
use Rattle.std.specs.Prelude.{is_some, unwrap_or}
use Rattle.std.specs.Str.{IsUtf8}
use Rattle.std.specs.List.{All}
use Rattle.clap.specs.Walk.{Row, Text, has_row, nothing_held, rows_of, settled, walk, walk_from, with_default}
use Rattle.clap.specs.Simple.{built, entered, matches_of}
use Rattle.clap.specs.Faults.{defaults_fault, entered_fault, fault_of, level_fault, settle_fault, walk_fault}
use Rattle.clap.specs.Kinds.{HasKind, IsAmong, Kinds, or_else}
use Rattle.clap.specs.Words.{kind_of as kind_told, found_of}
use Rattle.clap.specs.declared.error.Error.{Error}
use Rattle.clap.specs.declared.error.kind.ErrorKind.TheVariants as kind
use Rattle.clap.specs.declared.parser.matches.ArgMatches.{ArgMatches}
use Rattle.clap.proofs.WalkLemmas.{first_value-rows, raw_values-rows}
use Rattle.ntx_words.specs.CommandLine.{or_bad_words}
use Rattle.ntx_words.specs.Parts.{Parts, parts_of}
use Rattle.ntx_words.specs.inner.Clap.{ntx_app, parts_found}
use Rattle.ntx_words.proofs.Rows.{parts_in, rules, steps_built, paths_built}
use Rattle.ntx_words.proofs.Turns.{nothing_else, top}
use Rattle.ntx_words.proofs.Walks.{ending, last_held, walk_reads}

-- ---- nothing but the walk and its end can fail

or_true : (b : Bool) → (b || true) ≡ true
or_true true = refl
or_true false = refl

no_default_fault : (rows : List Row) → defaults_fault rows rules ≡ []
unfolding defaults_fault
no_default_fault rows = rw (or_true (has_row (codes "steps") rows), or_true (has_row (codes "paths") (with_default rows steps_built))) refl

no_default : (rows : List Row) → with_default (with_default rows steps_built) paths_built ≡ rows
no_default rows = go (has_row (codes "steps") rows) (has_row (codes "paths") (with_default rows steps_built)) refl refl
  where
    go : (a b : Bool) → has_row (codes "steps") rows ≡ a → has_row (codes "paths") (with_default rows steps_built) ≡ b
        → with_default (with_default rows steps_built) paths_built ≡ rows
    go true true e f = rw (f, e) refl
    go true false e f = rw (f, e) refl
    go false true e f = rw (f, e) refl
    go false false e f = rw (f, e) refl

-- the faults of the walk and of its end
abbrev walk_kinds : List Text → Kinds
walk_kinds words =
    or_else (walk_fault top [] (walk_from nothing_held) words) (settle_fault rules false (last_held (walk_from nothing_held) words))

level_kinds : (words : List Text) (stop : Option (Text × List Text))
    → level_fault top [] nothing_held words (is_some (entered (built ntx_app) stop)) (entered_fault (built ntx_app) stop) ≡ walk_kinds words
level_kinds words None = rw (no_default_fault (settled rules (last_held (walk_from nothing_held) words)).rows)
    (ap (or_else (walk_fault top [] (walk_from nothing_held) words)) (nothing_else _))
level_kinds words (Some p) = rw (no_default_fault (settled rules (last_held (walk_from nothing_held) words)).rows)
    (ap (or_else (walk_fault top [] (walk_from nothing_held) words)) (nothing_else _))

faults_are : (words : List Text) → fault_of ntx_app words ≡ walk_kinds words
faults_are words = level_kinds words (walk rules [] nothing_held words).stopped

rows_are : (words : List Text) → matches_of ntx_app words ≡ (settled rules (last_held (walk_from nothing_held) words)).rows
rows_are words = no_default (settled rules (last_held (walk_from nothing_held) words)).rows

reads : (words : List Text) → All IsUtf8 words → parts_of words ≡ ending (fault_of ntx_app words) (matches_of ntx_app words)
reads words utf8 = sym (walk_reads words utf8) ∙ sym (ap₂ ending (faults_are words) (rows_are words))

-- ---- matches

abbrev parts_with : Option Text → Option (List Text) → Parts
parts_with steps paths = record { steps = steps; paths = unwrap_or paths [] }

found : (m : ArgMatches) → parts_in (rows_of (found_of m)) ≡ parts_found m
found m = ap₂ parts_with (sym (first_value-rows (found_of m) (codes "steps"))) (sym (raw_values-rows (found_of m) (codes "paths")))

-- ---- answers

-- after an `Ok` of `clap`
pub accepted : (words : List Text) (m : ArgMatches) → All IsUtf8 words → fault_of ntx_app words ≡ [] → rows_of (found_of m) ≡ matches_of ntx_app words
    → or_bad_words (parts_of words) ≡ Ok (parts_found m)
accepted words m utf8 none rows =
    ap or_bad_words (reads words utf8 ∙ ap₂ ending none (sym rows)) ∙ ap Ok (found m)

-- after an `Err` of another kind than that for memory
pub refused : (words : List Text) (e : Error) → All IsUtf8 words → HasKind (fault_of ntx_app words) e → (kind_told e ≡ kind.OutOfMemory → ⊥)
    → or_bad_words (parts_of words) ≡ Err (record {})
refused words e utf8 (inl memory) other = absurd (other memory)
refused words e utf8 (inr among) other = ap or_bad_words (reads words utf8 ∙ go (fault_of ntx_app words) among)
  where
    go : (kinds : Kinds) → IsAmong (kind_told e) kinds → ending kinds (matches_of ntx_app words) ≡ None
    go [] h = absurd h
    go (k ∷ ks) h = refl
