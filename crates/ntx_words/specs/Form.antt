-- The form of a command line, word after word as it is written: paths, the option once or not at all, more paths, and then perhaps `--` and
-- any words. It says the same as `parts_of`, by the law `parts_have_their_form`.
use Rattle.std.specs.Prelude.{◌≡◌, ℕ, false, List, [], ◌∷◌, ◌++◌, Option, None, Some, codes}
use Rattle.std.specs.List.{All}
use Rattle.ntx_words.specs.Kind.{is_dashed}
use Rattle.ntx_words.specs.Parts.{Parts}

-- how the option is written: not at all, `--steps VALUE`, or `--steps=VALUE`
pub data Written : Type 0 where
  nowhere : Written
  apart : List ℕ → Written
  together : List ℕ → Written

abbrev pub written : Written → List (List ℕ)
written nowhere = []
written (apart value) = codes "--steps" ∷ value ∷ []
written (together value) = (codes "--steps=" ++ value) ∷ []

abbrev pub value_written : Written → Option (List ℕ)
value_written nowhere = None
value_written (apart value) = Some value
value_written (together value) = Some value

-- A word that does not begin with a hyphen, or is the hyphen alone.
abbrev pub IsPath : List ℕ → Type 0
IsPath word = is_dashed word ≡ false

-- A value that is a word of its own looks like a path.
abbrev pub IsWritable : Written → Type 0
IsWritable nowhere = Unit {0}
IsWritable (apart value) = IsPath value
IsWritable (together value) = Unit {0}

-- nothing, or `--` and any words
abbrev pub ending_written : Option (List (List ℕ)) → List (List ℕ)
ending_written None = []
ending_written (Some words) = codes "--" ∷ words

abbrev pub ending_paths : Option (List (List ℕ)) → List (List ℕ)
ending_paths None = []
ending_paths (Some words) = words

-- The words have these parts.
pub record HasForm (words : List (List ℕ)) (parts : Parts) : Type 0 where
  pub front : List (List ℕ)
  pub option : Written
  pub middle : List (List ℕ)
  pub ending : Option (List (List ℕ))
  pub front_paths : All IsPath front
  pub writable : IsWritable option
  pub middle_paths : All IsPath middle
  pub words_are : words ≡ front ++ (written option ++ (middle ++ ending_written ending))
  pub steps_are : parts.steps ≡ value_written option
  pub paths_are : parts.paths ≡ front ++ (middle ++ ending_paths ending)
