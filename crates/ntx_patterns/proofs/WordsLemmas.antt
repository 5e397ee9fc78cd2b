-- The first word of a text.
use Rattle.std.proofs.Common.{◌≡◌, ℕ, ◌+◌, ◌-◌, ◌<◌, List, [], ◌∷◌, length, take, drop, get_or, filter, nat_eq, suc, true, false, Some, None, All, arith, position, ap, refl, ◌∙◌, sym, inl, inr, add-zero, length-drop}
use Rattle.std.specs.List.{position_or_len}
use Rattle.std.proofs.lemmas.Bool.{cases_Bool, cond-true, not-true, not-false}
use Rattle.std.proofs.lemmas.Bool.Decides.{nat_tests}
use Rattle.std.proofs.lemmas.List.{take_rest, length-take-le, get_or-drop}
use Rattle.std.proofs.lemmas.List.Elements.{All-head, All-tail}
use Rattle.std.proofs.lemmas.List.Quantifiers.{position-Some}
use Rattle.std.proofs.lemmas.List.Splits.{slice_split_none, slice_split_first, slice_split-cons_yes}
use Rattle.ntx_patterns.specs.File.{is_blank, is_filled, is_word, words_in}
use Rattle.ntx_patterns.proofs.Position.{position_found, position_missed, position_here, position_later}

words_blank : (byte : ℕ) (bytes : List ℕ) → is_blank byte ≡ true → words_in (byte ∷ bytes) ≡ words_in bytes
words_blank byte bytes blank = ap (filter is_word) (slice_split-cons_yes is_blank byte bytes blank)

blanks : (text : List ℕ) → All (λ byte. is_filled byte ≡ false) text → words_in text ≡ []
blanks [] all = refl
blanks (byte ∷ bytes) all =
    words_blank byte bytes (not-false _ (All-head (λ b. is_filled b ≡ false) byte bytes all)) ∙ blanks bytes (All-tail (λ b. is_filled b ≡ false) byte bytes all)

-- A text of blanks has no word.
pub words_none : (text : List ℕ) → None ≡ position is_filled text → words_in text ≡ []
words_none text missed = blanks text (position_missed is_filled text (sym missed))

drop_more : {X : Type 0} (n : ℕ) (x : X) (xs : List X) → drop (1 + n) (x ∷ xs) ≡ drop n xs
drop_more n x xs = let e : 1 + n ≡ suc n = omega arith in rw e refl

skip : (text : List ℕ) → words_in text ≡ words_in (drop (position_or_len is_filled text) text)
skip [] = refl
skip (byte ∷ bytes) =
    elim (cases_Bool (is_filled byte)) [
      | inl filled ↦ rw (position_here is_filled byte bytes filled) refl
      | inr blank ↦ words_blank byte bytes (not-false _ blank) ∙ skip bytes
          ∙ sym (ap (λ n. words_in (drop n (byte ∷ bytes))) (position_later is_filled byte bytes blank) ∙ ap words_in (drop_more (position_or_len is_filled bytes) byte bytes))
    ]

-- Leading blanks are in no word.
pub words_skip : (text : List ℕ) (start : ℕ) → Some start ≡ position is_filled text → words_in text ≡ words_in (drop start text)
words_skip text start found =
    skip text ∙ ap (λ n. words_in (drop n text)) (sym (position_found is_filled text start (sym found)).0)

pub is_word-filled : (part : List ℕ) → 0 < length part → is_word part ≡ true
is_word-filled part some = let e : nat_eq (length part) 0 ≡ false = grind (arith, nat_tests) in rw e refl

-- A text without blanks is one word.
words_last : (text : List ℕ) → 0 < length text → position is_blank text ≡ None → words_in text ≡ text ∷ []
words_last text some missed =
    ap (filter is_word) (slice_split_none is_blank text (position_missed is_blank text missed)) ∙ cond-true _ _ _ (is_word-filled text some)

blank_later : (text : List ℕ) → is_blank (get_or text 0 0) ≡ false → position_or_len is_blank text < length text → 0 < position_or_len is_blank text
blank_later [] filled within = absurd (omega arith)
blank_later (byte ∷ bytes) filled within = omega (arith, position_later is_blank byte bytes filled)

words_cut : (text : List ℕ) → is_blank (get_or text 0 0) ≡ false → position_or_len is_blank text < length text → words_in text ≡ take (position_or_len is_blank text) text ∷ words_in (drop (position_or_len is_blank text + 1) text)
words_cut text filled within =
    ap (filter is_word) (slice_split_first is_blank text 0 within)
    ∙ cond-true _ _ _ (is_word-filled (take (position_or_len is_blank text) text) (omega (arith, blank_later text filled within, length-take-le (position_or_len is_blank text) text (omega arith))))

-- The first blank ends the first word.
words_first : (text : List ℕ) (blank : ℕ) → is_blank (get_or text 0 0) ≡ false → position is_blank text ≡ Some blank → words_in text ≡ take blank text ∷ words_in (drop (blank + 1) text)
words_first text blank filled found =
    let h : (blank ≡ position_or_len is_blank text) × (blank < length text) = position_found is_blank text blank found in
    rw h.0 (words_cut text filled (omega arith))

record Begins (text : List ℕ) (start : ℕ) : Type 0 where
  some : 0 < length (drop start text)
  filled : is_blank (get_or (drop start text) 0 0) ≡ false

begins : (text : List ℕ) (start : ℕ) → position is_filled text ≡ Some start → Begins text start
begins text start found =
    let h : (start < length text) × (is_filled (get_or text start 0) ≡ true) × ((k : ℕ) → k < start → is_filled (get_or text k 0) ≡ false) = position-Some is_filled text start 0 found in
    let same : get_or (drop start text) 0 0 ≡ get_or text start 0 = get_or-drop start text 0 0 ∙ ap (λ n. get_or text n 0) (add-zero start) in
    record { some = omega (arith, length-drop start text); filled = not-true _ (rw same h.1) }

pub next_word_last : (text : List ℕ) (start : ℕ) → Some start ≡ position is_filled text → None ≡ position is_blank (take (length text - start) (drop start text)) → words_in text ≡ take (length text - start) (drop start text) ∷ []
next_word_last text start found missed =
    let missed' : None ≡ position is_blank (drop start text) = rw take_rest at missed in
    rw take_rest (words_skip text start found ∙ words_last (drop start text) (begins text start (sym found)).some (sym missed'))

pub next_word_first : (text : List ℕ) (start blank : ℕ) → Some start ≡ position is_filled text → Some blank ≡ position is_blank (take (length text - start) (drop start text))
    → words_in text ≡ take blank (take (length text - start) (drop start text)) ∷ words_in (take (length (take (length text - start) (drop start text)) - (blank + 1)) (drop (blank + 1) (take (length text - start) (drop start text))))
next_word_first text start blank found ends =
    let ends' : Some blank ≡ position is_blank (drop start text) = rw take_rest at ends in
    simp take_rest (words_skip text start found ∙ words_first (drop start text) blank (begins text start (sym found)).filled (sym ends'))
