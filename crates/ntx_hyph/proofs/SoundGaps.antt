-- The nodes beside the gaps of a list are live, and each gap's font is one of a glyph.
use Rattle.std.proofs.Common.{◌≡◌, ℕ, ◌≤◌, List, [], ◌∷◌, pos, map, slice_get, Bool, true, false, cond, Some, None, refl, ap, subst}
use Rattle.std.specs.Prelude.{Option, All, is_some, suc, zero}
use Rattle.std.specs.List.{flat_map, filter_map, cons_option}
use Rattle.std.specs.Option.{option_map, option_and_then}
use Rattle.std.specs.Char.{is_ascii_alphabetic}
use Rattle.std.specs.FinMap as fin
use Rattle.std.proofs.lemmas.List.Elements.{All-nil, All-cons, All-head, All-tail, All-append}
use Rattle.ntx_num.proofs.Answers.{same_Some}
use Rattle.ntx_nodes.specs.Heap.{Heap, IsLawful, is_live}
use Rattle.ntx_nodes.specs.declared.contents.GlyphFields.{GlyphFields}
use Rattle.ntx_nodes.specs.declared.field.Field.TheVariants.{Font}
use Rattle.ntx_nodes.specs.declared.fields.Contents.{Contents}
use Rattle.ntx_nodes.specs.declared.fields.Contents.TheVariants as contents
use Rattle.ntx_nodes.specs.declared.node.Node.{Node}
use Rattle.ntx_nodes.specs.Heap.{IsInRange}
use Rattle.ntx_nodes.specs.Fields.{field_of, kind_of}
use Rattle.ntx_nodes.proofs.Ranges.{down_to}
use Rattle.ntx_hyph.specs.Words.{letter_of, letter_at, goes_on, in_front, words_of, gap_in, gaps_in_word, gaps_in}
use Rattle.ntx_hyph.specs.inner.Sound.{IsSound}
use Rattle.ntx_hyph.specs.declared.letter.Letter.{Letter}
use Rattle.ntx_hyph.specs.declared.letter.Gap.{Gap}

-- ---- letters
pub record IsLetter (heap : Heap) (a : Letter) : Type 0 where
  pub live : is_live heap a.name ≡ true
  pub font : a.font ≤ 63

chosen : (b : Bool) (heap : Heap) (l a : Letter) → cond b (Some l) None ≡ Some a → IsLetter heap l → IsLetter heap a
chosen true heap l a e h = subst (IsLetter heap) (same_Some l a e) h
chosen false heap l a e h = cc

of_contents : (heap : Heap) (n : ℕ) (c : Contents) (a : Letter) → is_live heap n ≡ true → ((g : GlyphFields) → c ≡ contents.Glyph g → g.font ≤ 63) → letter_of n c ≡ Some a → IsLetter heap a
of_contents heap n (contents.Glyph g) a alive fits e = chosen (is_ascii_alphabetic g.char) heap (record { name = n; code = g.char; font = g.font }) a e (record { live = alive; font = fits g refl })
of_contents heap n (contents.Hlist b) a alive fits e = cc
of_contents heap n (contents.Vlist b) a alive fits e = cc
of_contents heap n (contents.Rule r) a alive fits e = cc
of_contents heap n (contents.Disc d) a alive fits e = cc
of_contents heap n (contents.Glue g) a alive fits e = cc
of_contents heap n (contents.Kern w) a alive fits e = cc
of_contents heap n (contents.Penalty p) a alive fits e = cc

of_node : (heap : Heap) (n : ℕ) (o : Option Node) (a : Letter) → IsLawful heap → fin.get heap.nodes n ≡ o → option_and_then (λ node. letter_of n node.fields.contents) o ≡ Some a → IsLetter heap a
of_node heap n None a lawful at e = cc
of_node heap n (Some node) a lawful at e =
    of_contents heap n node.fields.contents a (ap is_some at)
    (λ g is. down_to g.font 63 (subst (λ (c : Contents). IsInRange (kind_of c) Font (pos g.font)) is ((lawful.nodes n node at).numbers Font (pos g.font) (ap (λ (c : Contents). field_of (record { subtype = node.fields.subtype; next = node.fields.next; contents = c }) Font) is)))) e

pub letter_found : (heap : Heap) (n : ℕ) (a : Letter) → IsLawful heap → letter_at heap n ≡ Some a → IsLetter heap a
letter_found heap n a lawful e = of_node heap n (fin.get heap.nodes n) a lawful refl e

-- ---- words
abbrev AreLetters : Heap → List Letter → Type 0
AreLetters heap word = All (IsLetter heap) word

front_letters : (heap : Heap) (a : Letter) (words : List (List Letter)) → IsLetter heap a → All (AreLetters heap) words → All (AreLetters heap) (in_front a words)
front_letters heap a [] h all = All-cons (AreLetters heap) (a ∷ []) [] (All-cons (IsLetter heap) a [] h (All-nil (IsLetter heap))) (All-nil (AreLetters heap))
front_letters heap a (word ∷ words) h all =
    All-cons (AreLetters heap) (a ∷ word) words (All-cons (IsLetter heap) a word h (All-head (AreLetters heap) word words all)) (All-tail (AreLetters heap) word words all)

either_letters : (b : Bool) (heap : Heap) (a : Letter) (words : List (List Letter)) → IsLetter heap a → All (AreLetters heap) words → All (AreLetters heap) (cond b (in_front a words) ((a ∷ []) ∷ words))
either_letters true heap a words h all = front_letters heap a words h all
either_letters false heap a words h all = All-cons (AreLetters heap) (a ∷ []) words (All-cons (IsLetter heap) a [] h (All-nil (IsLetter heap))) all

next_letters : (heap : Heap) (n : ℕ) (names : List ℕ) (o : Option Letter) → IsLawful heap → letter_at heap n ≡ o → All (AreLetters heap) (words_of (map (letter_at heap) names)) → All (AreLetters heap) (words_of (o ∷ map (letter_at heap) names))
next_letters heap n names None lawful at all = all
next_letters heap n names (Some a) lawful at all = either_letters (goes_on a (map (letter_at heap) names)) heap a (words_of (map (letter_at heap) names)) (letter_found heap n a lawful at) all

word_letters : (heap : Heap) (names : List ℕ) → IsLawful heap → All (AreLetters heap) (words_of (map (letter_at heap) names))
word_letters heap [] lawful = All-nil (AreLetters heap)
word_letters heap (n ∷ names) lawful = next_letters heap n names (letter_at heap n) lawful refl (word_letters heap names lawful)

-- ---- gaps
letter_in : (heap : Heap) (word : List Letter) (i : ℕ) (a : Letter) → AreLetters heap word → slice_get word i ≡ Some a → IsLetter heap a
letter_in heap [] i a all e = cc
letter_in heap (b ∷ word) zero a all e = subst (IsLetter heap) (same_Some b a e) (All-head (IsLetter heap) b word all)
letter_in heap (b ∷ word) (suc i) a all e = letter_in heap word i a (All-tail (IsLetter heap) b word all) e

between : (heap : Heap) (word : List Letter) (i j : ℕ) (before after : Option Letter) (gap : Gap) → AreLetters heap word → slice_get word i ≡ before → slice_get word j ≡ after
    → option_and_then (λ a. option_map (λ b. record { before = a.name; after = b.name; font = a.font }) after) before ≡ Some gap → IsSound heap gap
between heap word i j None after gap all x y e = cc
between heap word i j (Some a) None gap all x y e = cc
between heap word i j (Some a) (Some b) gap all x y e =
    let first = letter_in heap word i a all x in
    let second = letter_in heap word j b all y in
    subst (IsSound heap) (same_Some (record { before = a.name; after = b.name; font = a.font }) gap e) (record { before = first.live; after = second.live; font = first.font })

gap_found : (heap : Heap) (word : List Letter) (i : ℕ) (gap : Gap) → AreLetters heap word → gap_in word i ≡ Some gap → IsSound heap gap
gap_found heap word zero gap all e = cc
gap_found heap word (suc i) gap all e = between heap word i (suc i) (slice_get word i) (slice_get word (suc i)) gap all refl refl e

one_gap : (heap : Heap) (word : List Letter) (i : ℕ) (o : Option Gap) (gaps : List Gap) → AreLetters heap word → gap_in word i ≡ o → All (IsSound heap) gaps → All (IsSound heap) (cons_option o gaps)
one_gap heap word i None gaps all e rest = rest
one_gap heap word i (Some gap) gaps all e rest = All-cons (IsSound heap) gap gaps (gap_found heap word i gap all e) rest

gaps_of_points : (heap : Heap) (word : List Letter) (is : List ℕ) → AreLetters heap word → All (IsSound heap) (filter_map (gap_in word) is)
gaps_of_points heap word [] all = All-nil (IsSound heap)
gaps_of_points heap word (i ∷ is) all = one_gap heap word i (gap_in word i) (filter_map (gap_in word) is) all refl (gaps_of_points heap word is all)

gaps_of_words : (heap : Heap) (points : List ℕ → List ℕ) (words : List (List Letter)) → All (AreLetters heap) words → All (IsSound heap) (flat_map (gaps_in_word points) words)
gaps_of_words heap points [] all = All-nil (IsSound heap)
gaps_of_words heap points (word ∷ words) all =
    All-append (IsSound heap) (gaps_in_word points word) (flat_map (gaps_in_word points) words)
    (gaps_of_points heap word (points (map (λ a. a.code) word)) (All-head (AreLetters heap) word words all))
    (gaps_of_words heap points words (All-tail (AreLetters heap) word words all))

pub gaps_sound : (heap : Heap) (points : List ℕ → List ℕ) (names : List ℕ) → IsLawful heap → All (IsSound heap) (gaps_in points (map (letter_at heap) names))
gaps_sound heap points names lawful = gaps_of_words heap points (words_of (map (letter_at heap) names)) (word_letters heap names lawful)
