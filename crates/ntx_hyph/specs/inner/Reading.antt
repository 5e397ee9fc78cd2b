-- How far a list was read.
use Rattle.std.specs.Prelude.{◌≡◌, ◌⊎◌, ℕ, nat_eq, Bool, true, false, List, [], ◌∷◌, ◌++◌, map, Option, Some}
use Rattle.ntx_hyph.specs.Words.{goes_on, gaps_in}
use Rattle.ntx_hyph.specs.declared.letter.Letter.{Letter}
use Rattle.ntx_hyph.specs.declared.letter.Gap.{Gap}

-- the letters are of one font
abbrev pub AreOfOneFont : List Letter → Type 0
AreOfOneFont [] = Unit {0}
AreOfOneFont (a ∷ []) = Unit {0}
AreOfOneFont (a ∷ b ∷ rest) = (nat_eq a.font b.font ≡ true) × AreOfOneFont (b ∷ rest)

-- whether a word that has begun goes on into what follows
abbrev pub word_goes_on : List Letter → List (Option Letter) → Bool
word_goes_on [] rest = false
word_goes_on (a ∷ []) rest = goes_on a rest
word_goes_on (a ∷ b ∷ word) rest = word_goes_on (b ∷ word) rest

-- the gaps that were found, and those of the word that has begun and of the rest
abbrev pub gaps_with : (List ℕ → List ℕ) → List Gap → List Letter → List (Option Letter) → List Gap
gaps_with points gaps word rest = gaps ++ gaps_in points (map Some word ++ rest)

-- The word has no letters yet, or the next node is one of them.
abbrev pub IsReadyFor : List Letter → Option Letter → Type 0
IsReadyFor word next = (word ≡ []) ⊎ (word_goes_on word (next ∷ []) ≡ true)
