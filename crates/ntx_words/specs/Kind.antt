-- What one word of the command line is. The form is this project's own; options, `--` and `-` are those of the POSIX Utility Syntax
-- Guidelines (IEEE Std 1003.1, section 12.2, guidelines 9, 10 and 13), with long names as in the GNU Coding Standards, section 4.8.1.
use Rattle.std.specs.Prelude.{ℕ, ◌==◌, Bool, false, List, [], ◌∷◌, codes, if◌then◌else◌}
use Rattle.std.specs.List.{list_any, before_first, after_first}
use Rattle.std.specs.Str.{bytes_eq}

-- the sign between the name of an option and its value
abbrev pub is_equals : ℕ → Bool
is_equals byte = byte == 61

-- What a word is that stands before the word `--`.
pub data Kind : Type 0 where
  -- `--steps`, and its value is the next word
  option : Kind
  -- `--steps=` and its value
  option_with : List ℕ → Kind
  -- `--`: every word after it is a path
  last : Kind
  -- any other word that begins with a hyphen, except the hyphen alone
  unknown : Kind
  -- any other word: a path, or the value of an option
  plain : Kind

-- The word is `--steps`, alone or with a value after the first `=`.
abbrev pub is_steps : List ℕ → Bool
is_steps word = bytes_eq (codes "--steps") (before_first is_equals word)

abbrev pub steps_kind : List ℕ → Kind
steps_kind word = if list_any is_equals word then option_with (after_first is_equals word) else option

-- The word begins with a hyphen and is not the hyphen alone.
abbrev pub is_dashed : List ℕ → Bool
is_dashed [] = false
is_dashed (byte ∷ []) = false
is_dashed (byte ∷ next ∷ bytes) = byte == 45

abbrev pub kind_of : List ℕ → Kind
kind_of word =
    if is_steps word then steps_kind word else if bytes_eq word (codes "--") then last else if is_dashed word then unknown else plain
