-- A word that names a font: `PATH` or `PATH@SIZE`. The form is this project's own.
use Rattle.std.specs.Prelude.{ℕ, ◌==◌, ◌^◌, ◌-◌, ℤ, pos, List, [], ◌∷◌, Option, None, Some, if◌then◌else◌}
use Rattle.ntx_words.specs.Number.{number_in}

-- what stands before a sign, and what stands after it
pub record Halves : Type 0 where
  pub before : List ℕ
  pub after : List ℕ

abbrev pub halves_by : ℕ → List ℕ → Option Halves → Option Halves
halves_by byte bytes (Some halves) = Some (record halves { before = byte ∷ halves.before })
halves_by byte bytes None = if byte == 64 then Some (record { before = []; after = bytes }) else None

-- The halves of a word at its last `@`, if it has one.
abbrev pub halves_of : List ℕ → Option Halves
halves_of [] = None
halves_of (byte ∷ bytes) = halves_by byte bytes (halves_of bytes)

-- the greatest size of a font in scaled points
abbrev pub max_size : ℕ
max_size = 2 ^ 26 - 1

-- a font: the path of its file, and its size in scaled points if it is not the design size
pub record FontWord : Type 0 where
  pub path : List ℕ
  pub size : Option ℤ

abbrev pub font_by : List ℕ → List ℕ → Option ℕ → FontWord
font_by word before (Some size) = record { path = before; size = Some (pos size) }
font_by word before None = record { path = word; size = None }

abbrev pub font_with : List ℕ → Option Halves → FontWord
font_with word (Some halves) = font_by word halves.before (number_in 9 max_size halves.after)
font_with word None = record { path = word; size = None }

-- The font that a word names. A word whose part after the last `@` is no size is a path whole.
abbrev pub font_of : List ℕ → FontWord
font_of word = font_with word (halves_of word)
