-- References and tuples of the code as the definitions have them.
use Rattle.std.specs.Prelude.{ℕ, List, map, Option, option_map}
use Rattle.std.specs.Borrow.{Bor}
use Rattle.ntx_words.specs.Font.{Halves, FontWord}
use Rattle.ntx_words.specs.Parts.{Parts}
use Rattle.ntx_words.specs.declared.font.FontWord.{FontWord as Named}

abbrev pub halves_seen : Bor (List ℕ) × Bor (List ℕ) → Halves
halves_seen pair = record { before = pair.0.now; after = pair.1.now }

abbrev pub font_seen : Named → FontWord
font_seen font = record { path = font.path.now; size = font.size }

abbrev pub texts_of : List (Bor (List ℕ)) → List (List ℕ)
texts_of = map (λ text. text.now)

abbrev pub parts_given : Option (Bor (List ℕ)) → List (Bor (List ℕ)) → Parts
parts_given value words = record { steps = option_map (λ text. text.now) value; paths = texts_of words }
