-- Words as they are read, letter by letter, and what is true of the gaps that are found.
use Rattle.std.proofs.Common.{◌≡◌, ℕ, zero, suc, ◌+◌, ◌-◌, ◌<◌, List, [], ◌∷◌, ◌++◌, length, map, take, get_or, slice_get, true, false, cond, Some, None, inl, inr, refl, sym, ◌∙◌, ap, subst, append_assoc, arith}
use Rattle.std.specs.Prelude.{Option}
use Rattle.std.specs.List.{flat_map, filter_map, cons_option}
use Rattle.std.proofs.lemmas.List.{map-append, append-nil, take_more}
use Rattle.std.proofs.lemmas.List.Elements.{filter_map-append}
use Rattle.ntx_num.proofs.Answers.{same_Some}
use Rattle.ntx_hyph.specs.Words.{goes_on, in_front, words_of, gap_in, gaps_in_word, gaps_in}
use Rattle.ntx_hyph.specs.inner.Reading.{AreOfOneFont, word_goes_on, gaps_with, IsReadyFor}
use Rattle.ntx_hyph.specs.declared.letter.Letter.{Letter}
use Rattle.ntx_hyph.specs.declared.letter.Gap.{Gap}

-- ---- whether a word goes on
one_less : (n : ℕ) → suc (suc n) - 1 ≡ suc n
one_less n = omega arith

same_less : (n : ℕ) → suc n - 1 ≡ n
same_less n = omega arith

one_on : (a : Letter) (b : Letter) (word : List Letter) (o : Option Letter) → slice_get (a ∷ b ∷ word) (length (a ∷ b ∷ word) - 1) ≡ o → slice_get (b ∷ word) (length (b ∷ word) - 1) ≡ o
one_on a b word o e =
    let past : length (a ∷ b ∷ word) - 1 ≡ suc (length word) = one_less (length word) in
    let here : length (b ∷ word) - 1 ≡ length word = same_less (length word) in
    ap (slice_get (b ∷ word)) here ∙ sym (ap (slice_get (a ∷ b ∷ word)) past) ∙ e

-- its last letter decides
pub last_goes_on : (word : List Letter) (last : Letter) (rest : List (Option Letter)) → slice_get word (length word - 1) ≡ Some last → word_goes_on word rest ≡ goes_on last rest
last_goes_on [] last rest e = cc
last_goes_on (a ∷ []) last rest e = let same : a ≡ last = same_Some a last e in ap (λ x. goes_on x rest) same
last_goes_on (a ∷ b ∷ word) last rest e = last_goes_on (b ∷ word) last rest (one_on a b word (Some last) e)

pub none_goes_on : (word : List Letter) (rest : List (Option Letter)) → slice_get word (length word - 1) ≡ None → word_goes_on word rest ≡ false
none_goes_on [] rest e = refl
none_goes_on (a ∷ []) rest e = cc
none_goes_on (a ∷ b ∷ word) rest e = none_goes_on (b ∷ word) rest (one_on a b word None e)

-- no word goes on into what is no letter, or at the end
pub stops_at_none : (word : List Letter) (rest : List (Option Letter)) → word_goes_on word (None ∷ rest) ≡ false
stops_at_none [] rest = refl
stops_at_none (a ∷ []) rest = refl
stops_at_none (a ∷ b ∷ word) rest = stops_at_none (b ∷ word) rest

pub stops_at_end : (word : List Letter) → word_goes_on word [] ≡ false
stops_at_end [] = refl
stops_at_end (a ∷ []) = refl
stops_at_end (a ∷ b ∷ word) = stops_at_end (b ∷ word)

-- the next node alone decides
next_decides : (a : Letter) (next : Option Letter) (rest : List (Option Letter)) → goes_on a (next ∷ rest) ≡ goes_on a (next ∷ [])
next_decides a None rest = refl
next_decides a (Some b) rest = refl

pub decided : (word : List Letter) (next : Option Letter) (rest : List (Option Letter)) → word_goes_on word (next ∷ rest) ≡ word_goes_on word (next ∷ [])
decided [] next rest = refl
decided (a ∷ []) next rest = next_decides a next rest
decided (a ∷ b ∷ word) next rest = decided (b ∷ word) next rest

-- nor into what is no letter
pub no_letter : (word : List Letter) (next : Option Letter) → ((a : Letter) → next ≡ Some a → ⊥) → false ≡ word_goes_on word (next ∷ [])
no_letter word None h = sym (stops_at_none word [])
no_letter word (Some a) h = absurd (h a refl)

-- ---- the end of a word
ended : (a : Letter) (word : List Letter) (rest : List (Option Letter)) → AreOfOneFont (a ∷ word) → word_goes_on (a ∷ word) rest ≡ false → words_of (map Some (a ∷ word) ++ rest) ≡ (a ∷ word) ∷ words_of rest
ended a [] rest h e = ap (λ b. cond b (in_front a (words_of rest)) ((a ∷ []) ∷ words_of rest)) e
ended a (b ∷ word) rest h e =
    ap (λ x. cond x (in_front a (words_of (map Some (b ∷ word) ++ rest))) ((a ∷ []) ∷ words_of (map Some (b ∷ word) ++ rest))) h.0
    ∙ ap (in_front a) (ended b word rest h.1 e)

none_in : (is : List ℕ) → filter_map (gap_in []) is ≡ []
none_in [] = refl
none_in (zero ∷ is) = none_in is
none_in (suc i ∷ is) = none_in is

pub word_ended : (points : List ℕ → List ℕ) (word : List Letter) (rest : List (Option Letter)) → AreOfOneFont word → word_goes_on word rest ≡ false
    → gaps_in points (map Some word ++ rest) ≡ gaps_in_word points word ++ gaps_in points rest
word_ended points [] rest h e = ap (λ x. x ++ gaps_in points rest) (sym (none_in (points [])))
word_ended points (a ∷ word) rest h e = ap (flat_map (gaps_in_word points)) (ended a word rest h e)

-- ---- one node after another
pub room_made : (points : List ℕ → List ℕ) (gaps new_gaps : List Gap) (word new_word : List Letter) (next : Option Letter) (rest : List (Option Letter)) → AreOfOneFont word → word_goes_on word (next ∷ []) ≡ false
    → new_word ≡ [] → new_gaps ≡ gaps ++ gaps_in_word points word → gaps_with points new_gaps new_word (next ∷ rest) ≡ gaps_with points gaps word (next ∷ rest)
room_made points gaps new_gaps word new_word next rest h stops w e =
    ap (λ x. gaps_with points x new_word (next ∷ rest)) e
    ∙ ap (λ x. gaps_with points (gaps ++ gaps_in_word points word) x (next ∷ rest)) w
    ∙ append_assoc gaps (gaps_in_word points word) (gaps_in points (next ∷ rest))
    ∙ ap (λ x. gaps ++ x) (sym (word_ended points word (next ∷ rest) h (decided word next rest ∙ stops)))

pushed_font : (word : List Letter) (a : Letter) → AreOfOneFont word → word_goes_on word (Some a ∷ []) ≡ true → AreOfOneFont (word ++ a ∷ [])
pushed_font [] a h e = tt
pushed_font (b ∷ []) a h e = (e, tt)
pushed_font (b ∷ c ∷ word) a h e = (h.0, pushed_font (c ∷ word) a h.1 e)

pub put_font : (word : List Letter) (a : Letter) → AreOfOneFont word → IsReadyFor word (Some a) → AreOfOneFont (word ++ a ∷ [])
put_font word a h (inl none) = subst (λ (x : List Letter). AreOfOneFont (x ++ a ∷ [])) (sym none) tt
put_font word a h (inr goes) = pushed_font word a h goes

pub letter_put : (word : List Letter) (a : Letter) (rest : List (Option Letter)) → map Some (word ++ a ∷ []) ++ rest ≡ map Some word ++ Some a ∷ rest
letter_put word a rest = ap (λ x. x ++ rest) (map-append Some word (a ∷ [])) ∙ append_assoc (map Some word) (Some a ∷ []) rest

pub nothing_put : (points : List ℕ → List ℕ) (gaps : List Gap) (word : List Letter) (rest : List (Option Letter)) → IsReadyFor word None → gaps_with points gaps word rest ≡ gaps_with points gaps word (None ∷ rest)
nothing_put points gaps word rest (inl none) = subst (λ (x : List Letter). gaps_with points gaps x rest ≡ gaps_with points gaps x (None ∷ rest)) (sym none) refl
nothing_put points gaps word rest (inr goes) = let no = stops_at_none word [] in cc

pub no_letter_put : (points : List ℕ → List ℕ) (gaps : List Gap) (word : List Letter) (next : Option Letter) (rest : List (Option Letter)) → ((a : Letter) → next ≡ Some a → ⊥) → IsReadyFor word next
    → gaps_with points gaps word rest ≡ gaps_with points gaps word (next ∷ rest)
no_letter_put points gaps word None rest h ready = nothing_put points gaps word rest ready
no_letter_put points gaps word (Some a) rest h ready = absurd (h a refl)

-- all nodes are read, and the last word has ended
pub all_read : (points : List ℕ → List ℕ) (gaps new_gaps all : List Gap) (word : List Letter) (left : List (Option Letter)) → AreOfOneFont word → left ≡ [] → gaps_with points gaps word left ≡ all → new_gaps ≡ gaps ++ gaps_in_word points word → new_gaps ≡ all
all_read points gaps new_gaps all word left h none e n =
    n ∙ ap (λ x. gaps ++ x) (sym (append-nil (gaps_in_word points word)) ∙ sym (word_ended points word [] h (stops_at_end word)))
    ∙ ap (λ x. gaps_with points gaps word x) (sym none) ∙ e

-- ---- points
-- one point more, with a gap or without
pub point_read : (word now_word : List Letter) (old now new : List Gap) (is : List ℕ) (k d : ℕ) → k < length is → now_word ≡ word → now ≡ old ++ filter_map (gap_in word) (take k is)
    → new ≡ now ++ cons_option (gap_in now_word (get_or is k d)) [] → new ≡ old ++ filter_map (gap_in word) (take (k + 1) is)
point_read word now_word old now new is k d lt same read e =
    e ∙ ap (λ w. now ++ filter_map (gap_in w) (get_or is k d ∷ [])) same ∙ ap (λ x. x ++ filter_map (gap_in word) (get_or is k d ∷ [])) read
    ∙ append_assoc old (filter_map (gap_in word) (take k is)) (filter_map (gap_in word) (get_or is k d ∷ []))
    ∙ ap (λ x. old ++ x) (sym (filter_map-append (gap_in word) (take k is) (get_or is k d ∷ [])) ∙ ap (filter_map (gap_in word)) (sym (take_more is k d lt)))
