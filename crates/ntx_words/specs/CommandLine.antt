-- The command line `ntx [--steps N] DOC SCRIPT PATTERNS DVI [FONT...]` as a function of its words. The form is this project's own.
use Rattle.std.specs.Prelude.{ℕ, ◌+◌, ◌^◌, nat_le, ◌&&◌, Bool, ℤ, List, map, length, take, drop, ◌++◌, Option, None, Some, option_map, option_and_then, Result, Ok, Err, if◌then◌else◌}
use Rattle.ntx_words.specs.Parts.{Parts, parts_of}
use Rattle.ntx_words.specs.Number.{number_in}
use Rattle.ntx_words.specs.Font.{FontWord, font_of}
use Rattle.ntx_words.specs.declared.words.BadWords.{BadWords}

-- what the words ask for: the greatest number of steps, the number of the demo's paragraphs, the paths of the document, the script, the
-- patterns, the DVI file and each font, and each font's size in scaled points
pub record CommandLine : Type 0 where
  pub steps : ℕ
  pub demo : Option ℕ
  pub paths : List (List ℕ)
  pub sizes : List (Option ℤ)

abbrev pub default_steps : ℕ
default_steps = 1000000

abbrev pub max_steps : ℕ
max_steps = 2 ^ 32

-- The number of steps: the value of `--steps` has 1 to 10 digits.
abbrev pub steps_of : Option (List ℕ) → Option ℕ
steps_of None = Some default_steps
steps_of (Some value) = number_in 10 max_steps value

-- the document, the script, the patterns and the DVI file
abbrev pub file_count : ℕ
file_count = 4

abbrev pub max_fonts : ℕ
max_fonts = 64

-- The files, and up to 64 fonts.
abbrev pub is_count : ℕ → Bool
is_count n = nat_le file_count n && nat_le n (file_count + max_fonts)

abbrev pub fonts_of : List (List ℕ) → List FontWord
fonts_of words = map font_of (drop file_count words)

abbrev pub paths_of : List (List ℕ) → List (List ℕ)
paths_of words = take file_count words ++ map (λ (font : FontWord). font.path) (fonts_of words)

abbrev pub sizes_of : List (List ℕ) → List (Option ℤ)
sizes_of words = map (λ (font : FontWord). font.size) (fonts_of words)

abbrev pub line_with : List (List ℕ) → ℕ → CommandLine
line_with words steps = record { steps = steps; demo = None; paths = paths_of words; sizes = sizes_of words }

-- What the parts ask for, if there are as many paths as there may be and the option's value is a number of steps.
abbrev pub line_of : Parts → Option CommandLine
line_of parts = if is_count (length parts.paths) then option_map (line_with parts.paths) (steps_of parts.steps) else None

abbrev pub or_bad_words : {A : Type 0} → Option A → Result A BadWords
or_bad_words (Some a) = Ok a
or_bad_words None = Err (record {})

-- What the words of the command line ask for, or their refusal.
abbrev pub command_line : List (List ℕ) → Result CommandLine BadWords
command_line words = or_bad_words (option_and_then line_of (parts_of words))
