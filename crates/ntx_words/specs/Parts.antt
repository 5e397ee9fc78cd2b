-- What the words of the command line say: the value of the option and the paths. The form is this project's own.
use Rattle.std.specs.Prelude.{ℕ, Bool, true, false, List, [], ◌∷◌, Option, None, Some, is_some, option_map, option_and_then, if◌then◌else◌}
use Rattle.ntx_words.specs.Kind.{Kind, option, option_with, last, unknown, plain, kind_of}

-- the value of `--steps`, if it is given, and the paths in their order
pub record Parts : Type 0 where
  pub steps : Option (List ℕ)
  pub paths : List (List ℕ)

abbrev pub no_parts : Parts
no_parts = record { steps = None; paths = [] }

-- One more path before these parts.
abbrev pub with_path : List ℕ → Parts → Parts
with_path word parts = record { steps = parts.steps; paths = word ∷ parts.paths }

-- The value of the option before these parts, which do not give it again.
abbrev pub with_steps : List ℕ → Parts → Option Parts
with_steps value parts = if is_some parts.steps then None else Some (record parts { steps = Some value })

-- What a word of this kind and the words after it say. `wants` holds after `--steps`, whose value is then the next word; a word that begins with
-- a hyphen is no value, except the hyphen alone. `further` says what the words after this one say, wanting a value or not.
abbrev pub parts_by : Bool → Kind → List ℕ → List (List ℕ) → (Bool → Option Parts) → Option Parts
parts_by true plain word words further = option_and_then (with_steps word) (further false)
parts_by true _ word words further = None
parts_by false plain word words further = option_map (with_path word) (further false)
parts_by false option word words further = further true
parts_by false (option_with value) word words further = option_and_then (with_steps value) (further false)
parts_by false last word words further = Some (record { steps = None; paths = words })
parts_by false unknown word words further = None

-- What the words say from here on. None: they are not of the form.
unfoldable pub parts_from : Bool → List (List ℕ) → Option Parts
parts_from true [] = None
parts_from false [] = Some no_parts
parts_from wants (word ∷ words) = parts_by wants (kind_of word) word words (λ next. parts_from next words)

-- What all words say.
abbrev pub parts_of : List (List ℕ) → Option Parts
parts_of words = parts_from false words
