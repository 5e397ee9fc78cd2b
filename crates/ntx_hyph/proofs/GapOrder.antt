-- Gaps stand in their list, from the left to the right.
use Rattle.std.proofs.Common.{◌≡◌, ℕ, zero, suc, ◌+◌, ◌<◌, ◌≤◌, List, [], ◌∷◌, ◌++◌, map, drop, slice_get, Bool, true, false, cond, Some, None, refl, sym, ◌∙◌, ap, subst, append_assoc, arith}
use Rattle.std.specs.Prelude.{Option, nat_eq, slice_index}
use Rattle.std.specs.List.{flat_map, filter_map, cons_option}
use Rattle.std.specs.List.Sorted.{IsStrictlyIncreasing}
use Rattle.std.specs.Option.{option_map, option_and_then}
use Rattle.std.specs.Char.{is_ascii_alphabetic}
use Rattle.std.specs.FinMap as fin
use Rattle.std.proofs.lemmas.List.{map-append}
use Rattle.ntx_num.proofs.Answers.{same_Some}
use Rattle.ntx_nodes.specs.Heap.{Heap}
use Rattle.ntx_nodes.specs.declared.fields.Contents.{Contents}
use Rattle.ntx_nodes.specs.declared.fields.Contents.TheVariants as contents
use Rattle.ntx_nodes.specs.declared.node.Node.{Node}
use Rattle.ntx_hyph.specs.Words.{letter_of, letter_at, goes_on, in_front, words_of, gap_in, codes_of, gaps_in_word, gaps_in}
use Rattle.ntx_hyph.specs.declared.letter.Letter.{Letter}
use Rattle.ntx_hyph.specs.declared.letter.Gap.{Gap}

-- Each gap is between two names that stand side by side, and the next gap is not before it.
abbrev pub InOrder : List Gap → List ℕ → Type 0
InOrder [] names = Unit {0}
InOrder (gap ∷ gaps) names = (front : List ℕ) × (rest : List ℕ) × (names ≡ front ++ gap.before ∷ gap.after ∷ rest) × InOrder gaps (gap.after ∷ rest)

pub order_later : (gaps : List Gap) (front names : List ℕ) → InOrder gaps names → InOrder gaps (front ++ names)
order_later [] front names o = tt
order_later (gap ∷ gaps) front names o = (front ++ o.0, o.1, ap (λ x. front ++ x) o.2 ∙ sym (append_assoc front o.0 (gap.before ∷ gap.after ∷ o.1)), o.3)

-- ---- words in a list
abbrev names_of : List Letter → List ℕ
names_of word = map (λ a. a.name) word

abbrev WordsIn : List (List Letter) → List ℕ → Type 0
WordsIn [] names = Unit {0}
WordsIn (word ∷ words) names = (front : List ℕ) × (rest : List ℕ) × (names ≡ front ++ (names_of word ++ rest)) × WordsIn words rest

-- the first of them stands at the beginning
abbrev WordsFrom : List (List Letter) → List ℕ → Type 0
WordsFrom [] names = Unit {0}
WordsFrom (word ∷ words) names = (rest : List ℕ) × (names ≡ names_of word ++ rest) × WordsIn words rest

from_in : (words : List (List Letter)) (names : List ℕ) → WordsFrom words names → WordsIn words names
from_in [] names w = tt
from_in (word ∷ words) names w = ([], w.0, w.1, w.2)

words_later : (words : List (List Letter)) (n : ℕ) (names : List ℕ) → WordsIn words names → WordsIn words (n ∷ names)
words_later [] n names w = tt
words_later (word ∷ words) n names w = (n ∷ w.0, w.1, ap (λ x. n ∷ x) w.2, w.3)

in_front_from : (a : Letter) (words : List (List Letter)) (n : ℕ) (names : List ℕ) → a.name ≡ n → WordsFrom words names → WordsFrom (in_front a words) (n ∷ names)
in_front_from a [] n names e w = (names, ap (λ x. x ∷ names) (sym e), tt)
in_front_from a (word ∷ words) n names e w = (w.0, ap (λ x. x ∷ names) (sym e) ∙ ap (λ x. a.name ∷ x) w.1, w.2)

alone_from : (a : Letter) (words : List (List Letter)) (n : ℕ) (names : List ℕ) → a.name ≡ n → WordsIn words names → WordsFrom ((a ∷ []) ∷ words) (n ∷ names)
alone_from a words n names e w = (names, ap (λ x. x ∷ names) (sym e), w)

either_from : (b : Bool) (a : Letter) (words : List (List Letter)) (n : ℕ) (names : List ℕ) → a.name ≡ n → WordsFrom words names → WordsFrom (cond b (in_front a words) ((a ∷ []) ∷ words)) (n ∷ names)
either_from true a words n names e w = in_front_from a words n names e w
either_from false a words n names e w = alone_from a words n names e (from_in words names w)

-- a word begins where a letter does, at the beginning
abbrev Stand : List (Option Letter) → List (List Letter) → List ℕ → Type 0
Stand (Some a ∷ rest) words names = WordsFrom words names
Stand _ words names = WordsIn words names

stand_in : (letters : List (Option Letter)) (words : List (List Letter)) (names : List ℕ) → Stand letters words names → WordsIn words names
stand_in [] words names s = s
stand_in (None ∷ rest) words names s = s
stand_in (Some a ∷ rest) words names s = from_in words names s

letter_from : (a : Letter) (letters : List (Option Letter)) (words : List (List Letter)) (n : ℕ) (names : List ℕ) → a.name ≡ n → Stand letters words names → WordsFrom (cond (goes_on a letters) (in_front a words) ((a ∷ []) ∷ words)) (n ∷ names)
letter_from a [] words n names e s = alone_from a words n names e s
letter_from a (None ∷ rest) words n names e s = alone_from a words n names e s
letter_from a (Some b ∷ rest) words n names e s = either_from (nat_eq a.font b.font) a words n names e s

-- ---- the name of a letter
picked : (b : Bool) (l a : Letter) → cond b (Some l) None ≡ Some a → l ≡ a
picked true l a e = same_Some l a e
picked false l a e = cc

named : (n : ℕ) (c : Contents) (a : Letter) → letter_of n c ≡ Some a → a.name ≡ n
named n (contents.Glyph g) a e = sym (ap (λ (x : Letter). x.name) (picked (is_ascii_alphabetic g.char) (record { name = n; code = g.char; font = g.font }) a e))
named n (contents.Hlist b) a e = cc
named n (contents.Vlist b) a e = cc
named n (contents.Rule r) a e = cc
named n (contents.Disc d) a e = cc
named n (contents.Glue g) a e = cc
named n (contents.Kern w) a e = cc
named n (contents.Penalty p) a e = cc

named_node : (n : ℕ) (o : Option Node) (a : Letter) → option_and_then (λ (node : Node). letter_of n node.fields.contents) o ≡ Some a → a.name ≡ n
named_node n None a e = cc
named_node n (Some node) a e = named n node.fields.contents a e

stand_at : (heap : Heap) (n : ℕ) (names : List ℕ) (o : Option Letter) → letter_at heap n ≡ o → Stand (map (letter_at heap) names) (words_of (map (letter_at heap) names)) names
    → Stand (o ∷ map (letter_at heap) names) (words_of (o ∷ map (letter_at heap) names)) (n ∷ names)
stand_at heap n names None e s = words_later (words_of (map (letter_at heap) names)) n names (stand_in (map (letter_at heap) names) (words_of (map (letter_at heap) names)) names s)
stand_at heap n names (Some a) e s = letter_from a (map (letter_at heap) names) (words_of (map (letter_at heap) names)) n names (named_node n (fin.get heap.nodes n) a e) s

stand : (heap : Heap) (names : List ℕ) → Stand (map (letter_at heap) names) (words_of (map (letter_at heap) names)) names
stand heap [] = tt
stand heap (n ∷ names) = stand_at heap n names (letter_at heap n) refl (stand heap names)

-- ---- points that ascend
abbrev Rises : ℕ → List ℕ → Type 0
Rises k [] = Unit {0}
Rises k (i ∷ is) = (k < i) × Rises i is

tail_rises : (x : ℕ) (xs : List ℕ) → IsStrictlyIncreasing (x ∷ xs) → IsStrictlyIncreasing xs
tail_rises x xs h k within =
    let e : suc k + 1 ≡ suc (k + 1) = omega arith in
    subst (λ m. slice_index xs k < slice_index (x ∷ xs) m) e (h (suc k) (omega arith))

risen : (i : ℕ) (is : List ℕ) → IsStrictlyIncreasing (i ∷ is) → Rises i is
risen i [] h = tt
risen i (j ∷ is) h = (h 0 (omega arith), risen j is (tail_rises i (j ∷ is) h))

-- ---- gaps in a word
at_front : (word : List Letter) (i : ℕ) (a : Letter) → slice_get word i ≡ Some a → drop i word ≡ a ∷ drop (suc i) word
at_front [] i a e = cc
at_front (b ∷ word) zero a e = ap (λ x. x ∷ word) (same_Some b a e)
at_front (b ∷ word) (suc i) a e = at_front word i a e

later : (word : List Letter) (k i : ℕ) → k ≤ i → (front : List Letter) × (drop k word ≡ front ++ drop i word)
later [] zero zero h = ([], refl)
later [] zero (suc i) h = ([], refl)
later [] (suc k) zero h = absurd (omega arith)
later [] (suc k) (suc i) h = ([], refl)
later (a ∷ word) zero zero h = ([], refl)
later (a ∷ word) zero (suc i) h = let l = later word zero i (omega arith) in (a ∷ l.0, ap (λ x. a ∷ x) l.1)
later (a ∷ word) (suc k) zero h = absurd (omega arith)
later (a ∷ word) (suc k) (suc i) h = later word k i (omega arith)

order_from : (word : List Letter) (k i : ℕ) (gaps : List Gap) (rest : List ℕ) → k ≤ i → InOrder gaps (names_of (drop i word) ++ rest) → InOrder gaps (names_of (drop k word) ++ rest)
order_from word k i gaps rest h o =
    let l = later word k i h in
    subst (InOrder gaps) (sym (ap (λ x. names_of x ++ rest) l.1 ∙ ap (λ x. x ++ rest) (map-append (λ (a : Letter). a.name) l.0 (drop i word)) ∙ append_assoc (names_of l.0) (names_of (drop i word)) rest))
    (order_later gaps (names_of l.0) (names_of (drop i word) ++ rest) o)

point_at : (word : List Letter) (k j : ℕ) (gaps : List Gap) (rest : List ℕ) (before after : Option Letter) → k ≤ j → slice_get word j ≡ before → slice_get word (suc j) ≡ after → InOrder gaps (names_of (drop (suc j) word) ++ rest)
    → InOrder (cons_option (option_and_then (λ a. option_map (λ b. record { before = a.name; after = b.name; font = a.font }) after) before) gaps) (names_of (drop k word) ++ rest)
point_at word k j gaps rest None after h x y o = order_from word k (suc j) gaps rest (omega arith) o
point_at word k j gaps rest (Some a) None h x y o = order_from word k (suc j) gaps rest (omega arith) o
point_at word k j gaps rest (Some a) (Some b) h x y o =
    let first = at_front word j a x in
    let second = at_front word (suc j) b y in
    let left : List ℕ = names_of (drop (suc (suc j)) word) ++ rest in
    order_from word k j (record { before = a.name; after = b.name; font = a.font } ∷ gaps) rest h
    ([], left, ap (λ w. names_of w ++ rest) (first ∙ ap (λ w. a ∷ w) second), subst (λ w. InOrder gaps (names_of w ++ rest)) second o)

cons_append : (o : Option Gap) (a b : List Gap) → cons_option o a ++ b ≡ cons_option o (a ++ b)
cons_append None a b = refl
cons_append (Some x) a b = refl

in_word : (word : List Letter) (is : List ℕ) (k : ℕ) (gaps : List Gap) (rest : List ℕ) → Rises k is → InOrder gaps rest → InOrder (filter_map (gap_in word) is ++ gaps) (names_of (drop k word) ++ rest)
in_word word [] k gaps rest r o = order_later gaps (names_of (drop k word)) rest o
in_word word (zero ∷ is) k gaps rest r o = let no : k < 0 = r.0 in absurd (omega arith)
in_word word (suc j ∷ is) k gaps rest r o =
    let above : k < suc j = r.0 in
    subst (λ x. InOrder x (names_of (drop k word) ++ rest)) (sym (cons_append (gap_in word (suc j)) (filter_map (gap_in word) is) gaps))
    (point_at word k j (filter_map (gap_in word) is ++ gaps) rest (slice_get word j) (slice_get word (suc j)) (omega arith) refl refl (in_word word is (suc j) gaps rest r.1 o))

in_whole_word : (word : List Letter) (is : List ℕ) (gaps : List Gap) (rest : List ℕ) → IsStrictlyIncreasing is → InOrder gaps rest → InOrder (filter_map (gap_in word) is ++ gaps) (names_of word ++ rest)
in_whole_word word [] gaps rest h o = order_later gaps (names_of word) rest o
in_whole_word word (zero ∷ is) gaps rest h o = in_word word is 0 gaps rest (risen 0 is h) o
in_whole_word word (suc i ∷ is) gaps rest h o = in_word word (suc i ∷ is) 0 gaps rest (omega arith, risen (suc i) is h) o

in_words : (points : List ℕ → List ℕ) (words : List (List Letter)) (names : List ℕ) → ((word : List ℕ) → IsStrictlyIncreasing (points word)) → WordsIn words names → InOrder (flat_map (gaps_in_word points) words) names
in_words points [] names h w = tt
in_words points (word ∷ words) names h w =
    let gaps : List Gap = flat_map (gaps_in_word points) words in
    subst (InOrder (gaps_in_word points word ++ gaps)) (sym w.2)
    (order_later (gaps_in_word points word ++ gaps) w.0 (names_of word ++ w.1) (in_whole_word word (points (codes_of word)) gaps w.1 (h (codes_of word)) (in_words points words w.1 h w.3)))

pub in_order : (heap : Heap) (points : List ℕ → List ℕ) (names : List ℕ) → ((word : List ℕ) → IsStrictlyIncreasing (points word)) → InOrder (gaps_in points (map (letter_at heap) names)) names
in_order heap points names h = in_words points (words_of (map (letter_at heap) names)) names h (stand_in (map (letter_at heap) names) (words_of (map (letter_at heap) names)) names (stand heap names))
