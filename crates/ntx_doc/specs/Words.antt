-- What words of text put into a box: a character for each byte, and space glue between words.
use Rattle.std.specs.Prelude.{ℕ, Bool, true, false, List, [], ◌∷◌, ◌++◌, map, flat_map}
use Rattle.ntx_doc.specs.declared.command.Command.{Command}
use Rattle.ntx_doc.specs.declared.command.Command.TheVariants.{Glyph, Space}

-- the characters of a word
abbrev pub glyphs_of : ℕ → List ℕ → List Command
glyphs_of font word = map (Glyph font) word

-- each word with space glue before it
abbrev pub spaced : ℕ → List (List ℕ) → List Command
spaced font words = flat_map (λ word. Space font ∷ glyphs_of font word) words

-- Space glue stands between two words, and before the first one if the line stands directly after another line of text.
abbrev pub text_commands : Bool → ℕ → List (List ℕ) → List Command
text_commands true font words = spaced font words
text_commands false font [] = []
text_commands false font (word ∷ others) = glyphs_of font word ++ spaced font others
