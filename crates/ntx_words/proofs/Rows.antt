-- The rows that `clap` holds: the option's value and the paths so far.
use Rattle.std.proofs.Common.{◌≡◌, ◌∙◌, ℕ, Bool, true, false, List, [], ◌∷◌, ◌++◌, Option, None, Some, refl, ap, codes}
use Rattle.std.specs.Prelude.{option_map, option_and_then, unwrap_or, is_some, slice_get, find}
use Rattle.std.specs.Str.{bytes_eq}
use Rattle.std.proofs.lemmas.Slice.Eq.{bytes_eq-Decides}
use Rattle.clap.specs.Walk.{Row, Rule, all_of, first_of, has_row, used, with_values, without}
use Rattle.clap.specs.Simple.{built, filled, with_index}
use Rattle.clap.specs.Faults.{use_fault}
use Rattle.clap.specs.declared.builder.value_parser.Reading.{Reading}
use Rattle.clap.specs.declared.error.kind.ErrorKind.TheVariants as kind
use Rattle.clap.specs.declared.parser.matches.ValueSource.TheVariants.{CommandLine}
use Rattle.ntx_words.specs.Parts.{Parts}
use Rattle.ntx_words.specs.inner.Clap.{ntx_app, steps_rule, paths_rule}

-- the rules as `clap` builds them
abbrev pub rules : List Rule
rules = (built ntx_app).top.rules

-- ---- rows of one id

-- values of an id join those that it has
pub all_joined : (id : List ℕ) (how : Reading) (values : List (List ℕ)) (rows : List Row) → bytes_eq id id ≡ true
    → all_of id (with_values id how CommandLine values rows) ≡ Some (unwrap_or (all_of id rows) [] ++ values)
all_joined id how values [] same = rw same refl
all_joined id how values (r ∷ rs) same = go (bytes_eq r.id id) refl (all_joined id how values rs same)
  where
    go : (b : Bool) → bytes_eq r.id id ≡ b → all_of id (with_values id how CommandLine values rs) ≡ Some (unwrap_or (all_of id rs) [] ++ values)
        → all_of id (with_values id how CommandLine values (r ∷ rs)) ≡ Some (unwrap_or (all_of id (r ∷ rs)) [] ++ values)
    go true e rest = rw (e, e) refl
    go false e rest = rw (e, e) rest

-- other ids keep theirs
pub all_kept : (id other : List ℕ) (how : Reading) (values : List (List ℕ)) (rows : List Row) → bytes_eq id other ≡ false
    → all_of other (with_values id how CommandLine values rows) ≡ all_of other rows
all_kept id other how values [] differ = rw differ refl
all_kept id other how values (r ∷ rs) differ = go (bytes_eq r.id id) refl (below (bytes_eq r.id other) refl (all_kept id other how values rs differ))
  where
    is_not : bytes_eq r.id id ≡ true → bytes_eq r.id other ≡ false
    is_not e = ap (λ i. bytes_eq i other) ((bytes_eq-Decides r.id id).0 e) ∙ differ

    below : (b : Bool) → bytes_eq r.id other ≡ b → all_of other (with_values id how CommandLine values rs) ≡ all_of other rs
        → all_of other (r ∷ with_values id how CommandLine values rs) ≡ all_of other (r ∷ rs)
    below true e rest = rw e refl
    below false e rest = rw e rest

    go : (b : Bool) → bytes_eq r.id id ≡ b → all_of other (r ∷ with_values id how CommandLine values rs) ≡ all_of other (r ∷ rs)
        → all_of other (with_values id how CommandLine values (r ∷ rs)) ≡ all_of other (r ∷ rs)
    go true e rest = let n = is_not e in rw (e, n) refl
    go false e rest = rw e rest

-- an id without a row is not taken away
pub nothing_without : (id : List ℕ) (rows : List Row) → all_of id rows ≡ None → without id rows ≡ rows
nothing_without id [] none = refl
nothing_without id (r ∷ rs) none = go (bytes_eq r.id id) refl none (nothing_without id rs)
  where
    go : (b : Bool) → bytes_eq r.id id ≡ b → all_of id (r ∷ rs) ≡ None → (all_of id rs ≡ None → without id rs ≡ rs) → without id (r ∷ rs) ≡ r ∷ rs
    go true e n rest = let bad : Some r.values ≡ None = rw e at n in cc
    go false e n rest = rw e (ap (λ t. r ∷ t) (rest (rw e at n)))

pub row_of_all : (id : List ℕ) (rows : List Row) → has_row id rows ≡ is_some (all_of id rows)
row_of_all id [] = refl
row_of_all id (r ∷ rs) = go (bytes_eq r.id id) refl (row_of_all id rs)
  where
    go : (b : Bool) → bytes_eq r.id id ≡ b → has_row id rs ≡ is_some (all_of id rs) → has_row id (r ∷ rs) ≡ is_some (all_of id (r ∷ rs))
    go true e rest = rw e refl
    go false e rest = rw e rest

pub first_of_all : (id : List ℕ) (rows : List Row) → first_of id rows ≡ option_and_then (λ values. slice_get values 0) (all_of id rows)
first_of_all id rows = go (find (λ r. bytes_eq r.id id) rows)
  where
    go : (o : Option Row) → option_and_then (λ r. slice_get r.values 0) o ≡ option_and_then (λ values. slice_get values 0) (option_map (λ r. r.values) o)
    go None = refl
    go (Some r) = refl

-- ---- what the rows hold

-- the value of the option, if it is given, and the paths
pub record Holds (steps : Option (List ℕ)) (paths : List (List ℕ)) (rows : List Row) : Type 0 where
  pub value : all_of (codes "steps") rows ≡ option_map (λ v. v ∷ []) steps
  pub all : unwrap_or (all_of (codes "paths") rows) [] ≡ paths

-- what the rows say
abbrev pub parts_in : List Row → Parts
parts_in rows = record { steps = first_of (codes "steps") rows; paths = unwrap_or (all_of (codes "paths") rows) [] }

pub parts_held : (steps : Option (List ℕ)) (paths : List (List ℕ)) (rows : List Row) → Holds steps paths rows
    → parts_in rows ≡ record { steps = steps; paths = paths }
parts_held steps paths rows holds = rw (first, holds.all) refl
  where
    one : (o : Option (List ℕ)) → option_and_then (λ values. slice_get values 0) (option_map (λ v. v ∷ []) o) ≡ o
    one None = refl
    one (Some v) = refl

    first : first_of (codes "steps") rows ≡ steps
    first = first_of_all (codes "steps") rows ∙ ap (option_and_then (λ values. slice_get values 0)) holds.value ∙ one steps

abbrev pub steps_built : Rule
steps_built = filled steps_rule

abbrev pub paths_built : Rule
paths_built = with_index 1 (filled paths_rule)

-- one more path
pub path_held : (steps : Option (List ℕ)) (paths : List (List ℕ)) (rows : List Row) (word : List ℕ) → Holds steps paths rows
    → Holds steps (paths ++ word ∷ []) (used paths_built (word ∷ []) rows)
path_held steps paths rows word holds = record {
  value = all_kept (codes "paths") (codes "steps") _ (word ∷ []) rows refl ∙ holds.value;
  all = ap (λ o. unwrap_or o []) (all_joined (codes "paths") _ (word ∷ []) rows refl) ∙ ap (λ t. t ++ word ∷ []) holds.all;
}

-- the value of the option, for the first time
pub value_held : (paths : List (List ℕ)) (rows : List Row) (word : List ℕ) → Holds None paths rows → Holds (Some word) paths (used steps_built (word ∷ []) rows)
value_held paths rows word holds =
    let none = nothing_without (codes "steps") rows holds.value in
    rw none (record {
      value = all_joined (codes "steps") _ (word ∷ []) rows refl ∙ ap (λ o. Some (unwrap_or o [] ++ word ∷ [])) holds.value;
      all = ap (λ o. unwrap_or o []) (all_kept (codes "steps") (codes "paths") _ (word ∷ []) rows refl) ∙ holds.all;
    })

-- ---- faults of one use

pub path_passes : (word : List ℕ) (rows : List Row) → use_fault false paths_built (word ∷ []) rows ≡ []
path_passes word rows = refl

pub value_passes : (paths : List (List ℕ)) (word : List ℕ) (rows : List Row) → Holds None paths rows → use_fault false steps_built (word ∷ []) rows ≡ []
value_passes paths word rows holds = rw (row_of_all (codes "steps") rows, holds.value) refl

pub second_fails : (paths : List (List ℕ)) (value word : List ℕ) (rows : List Row) → Holds (Some value) paths rows
    → use_fault false steps_built (word ∷ []) rows ≡ kind.ArgumentConflict ∷ []
second_fails paths value word rows holds = rw (row_of_all (codes "steps") rows, holds.value) refl
