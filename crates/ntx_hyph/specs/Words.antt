-- The words of a list: maximal runs of adjacent glyphs of one font whose codes are letters, A to Z or a to z ("TeX: The Program", sections 891 to 899).
--     letter_at heap n        the node of this name as a letter, if it is one
--     words_of letters        the words of a list; each of its nodes is given as a letter, or as none
--     gap_in word i           the gap after the first i letters of a word
--     gaps_in points letters  the gaps of a list in which there is a point; `points` gives the points of a word's codes
use Rattle.std.specs.Prelude.{ℕ, zero, suc, nat_eq, Bool, false, if◌then◌else◌, List, [], ◌∷◌, map, slice_get, Option, None, Some}
use Rattle.std.specs.List.{flat_map, filter_map}
use Rattle.std.specs.Option.{option_map, option_and_then}
use Rattle.std.specs.Char.{is_ascii_alphabetic}
use Rattle.std.specs.FinMap as fin
use Rattle.ntx_nodes.specs.Heap.{Heap}
use Rattle.ntx_nodes.specs.declared.fields.Contents.{Contents}
use Rattle.ntx_nodes.specs.declared.fields.Contents.TheVariants as contents
use Rattle.ntx_hyph.specs.declared.letter.Letter.{Letter}
use Rattle.ntx_hyph.specs.declared.letter.Gap.{Gap}

-- ---- letters
abbrev pub letter_of : ℕ → Contents → Option Letter
letter_of n (contents.Glyph g) = if is_ascii_alphabetic g.char then Some (record { name = n; code = g.char; font = g.font }) else None
letter_of n _ = None

abbrev pub letter_at : Heap → ℕ → Option Letter
letter_at heap n = option_and_then (λ node. letter_of n node.fields.contents) (fin.get heap.nodes n)

-- ---- words
-- whether a letter of the same font comes next
abbrev pub goes_on : Letter → List (Option Letter) → Bool
goes_on a (Some b ∷ rest) = nat_eq a.font b.font
goes_on a _ = false

-- a letter before the first word
abbrev pub in_front : Letter → List (List Letter) → List (List Letter)
in_front a [] = (a ∷ []) ∷ []
in_front a (word ∷ words) = (a ∷ word) ∷ words

-- Between words there may be other nodes, or the font changes.
abbrev pub words_of : List (Option Letter) → List (List Letter)
words_of [] = []
words_of (None ∷ rest) = words_of rest
words_of (Some a ∷ rest) = if goes_on a rest then in_front a (words_of rest) else (a ∷ []) ∷ words_of rest

-- ---- gaps
-- there is none before the first letter
abbrev pub gap_in : List Letter → ℕ → Option Gap
gap_in word zero = None
gap_in word (suc i) = option_and_then (λ a. option_map (λ b. record { before = a.name; after = b.name; font = a.font }) (slice_get word (suc i))) (slice_get word i)

abbrev pub codes_of : List Letter → List ℕ
codes_of word = map (λ a. a.code) word

abbrev pub gaps_in_word : (List ℕ → List ℕ) → List Letter → List Gap
gaps_in_word points word = filter_map (gap_in word) (points (codes_of word))

abbrev pub gaps_in : (List ℕ → List ℕ) → List (Option Letter) → List Gap
gaps_in points letters = flat_map (gaps_in_word points) (words_of letters)
