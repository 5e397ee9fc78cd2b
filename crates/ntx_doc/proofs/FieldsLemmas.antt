-- The first field of a line.
use Rattle.std.proofs.Common.{◌≡◌, ℕ, ◌+◌, ◌-◌, ◌<◌, List, [], ◌∷◌, length, take, drop, get_or, filter, nat_eq, suc, true, false, Some, None, All, arith, position, ap, refl, ◌∙◌, sym, inl, inr, add-zero, length-drop}
use Rattle.std.specs.List.{position_or_len}
use Rattle.std.proofs.lemmas.Bool.{cases_Bool, cond-true, not-true, not-false}
use Rattle.std.proofs.lemmas.Bool.Decides.{nat_tests}
use Rattle.std.proofs.lemmas.List.{take_rest, length-take-le, get_or-drop}
use Rattle.std.proofs.lemmas.List.Elements.{All-head, All-tail}
use Rattle.std.proofs.lemmas.List.Quantifiers.{position-Some}
use Rattle.std.proofs.lemmas.List.Splits.{slice_split_none, slice_split_first, slice_split-cons_yes}
use Rattle.ntx_doc.specs.Text.{is_blank, is_in_field, is_field, fields_of}
use Rattle.ntx_doc.proofs.Position.{position_found, position_missed, position_here, position_later}

fields_blank : (byte : ℕ) (bytes : List ℕ) → is_blank byte ≡ true → fields_of (byte ∷ bytes) ≡ fields_of bytes
fields_blank byte bytes blank = ap (filter is_field) (slice_split-cons_yes is_blank byte bytes blank)

blanks : (line : List ℕ) → All (λ byte. is_in_field byte ≡ false) line → fields_of line ≡ []
blanks [] all = refl
blanks (byte ∷ bytes) all =
    fields_blank byte bytes (not-false _ (All-head (λ b. is_in_field b ≡ false) byte bytes all)) ∙ blanks bytes (All-tail (λ b. is_in_field b ≡ false) byte bytes all)

-- A line of blanks has no field.
pub fields_none : (line : List ℕ) → None ≡ position is_in_field line → fields_of line ≡ []
fields_none line missed = blanks line (position_missed is_in_field line (sym missed))

drop_more : {X : Type 0} (n : ℕ) (x : X) (xs : List X) → drop (1 + n) (x ∷ xs) ≡ drop n xs
drop_more n x xs = let e : 1 + n ≡ suc n = omega arith in rw e refl

skip : (line : List ℕ) → fields_of line ≡ fields_of (drop (position_or_len is_in_field line) line)
skip [] = refl
skip (byte ∷ bytes) =
    elim (cases_Bool (is_in_field byte)) [
      | inl filled ↦ rw (position_here is_in_field byte bytes filled) refl
      | inr blank ↦ fields_blank byte bytes (not-false _ blank) ∙ skip bytes
          ∙ sym (ap (λ n. fields_of (drop n (byte ∷ bytes))) (position_later is_in_field byte bytes blank) ∙ ap fields_of (drop_more (position_or_len is_in_field bytes) byte bytes))
    ]

-- Leading blanks are in no field.
pub fields_skip : (line : List ℕ) (start : ℕ) → Some start ≡ position is_in_field line → fields_of line ≡ fields_of (drop start line)
fields_skip line start found =
    skip line ∙ ap (λ n. fields_of (drop n line)) (sym (position_found is_in_field line start (sym found)).0)

pub is_field-filled : (part : List ℕ) → 0 < length part → is_field part ≡ true
is_field-filled part some = let e : nat_eq (length part) 0 ≡ false = grind (arith, nat_tests) in rw e refl

-- A line without blanks is one field.
fields_last : (line : List ℕ) → 0 < length line → position is_blank line ≡ None → fields_of line ≡ line ∷ []
fields_last line some missed =
    ap (filter is_field) (slice_split_none is_blank line (position_missed is_blank line missed)) ∙ cond-true _ _ _ (is_field-filled line some)

blank_later : (line : List ℕ) → is_blank (get_or line 0 0) ≡ false → position_or_len is_blank line < length line → 0 < position_or_len is_blank line
blank_later [] filled within = absurd (omega arith)
blank_later (byte ∷ bytes) filled within = omega (arith, position_later is_blank byte bytes filled)

fields_cut : (line : List ℕ) → is_blank (get_or line 0 0) ≡ false → position_or_len is_blank line < length line → fields_of line ≡ take (position_or_len is_blank line) line ∷ fields_of (drop (position_or_len is_blank line + 1) line)
fields_cut line filled within =
    ap (filter is_field) (slice_split_first is_blank line 0 within)
    ∙ cond-true _ _ _ (is_field-filled (take (position_or_len is_blank line) line) (omega (arith, blank_later line filled within, length-take-le (position_or_len is_blank line) line (omega arith))))

-- The first blank ends the first field.
fields_first : (line : List ℕ) (blank : ℕ) → is_blank (get_or line 0 0) ≡ false → position is_blank line ≡ Some blank → fields_of line ≡ take blank line ∷ fields_of (drop (blank + 1) line)
fields_first line blank filled found =
    let h : (blank ≡ position_or_len is_blank line) × (blank < length line) = position_found is_blank line blank found in
    rw h.0 (fields_cut line filled (omega arith))

record Begins (line : List ℕ) (start : ℕ) : Type 0 where
  some : 0 < length (drop start line)
  filled : is_blank (get_or (drop start line) 0 0) ≡ false

begins : (line : List ℕ) (start : ℕ) → position is_in_field line ≡ Some start → Begins line start
begins line start found =
    let h : (start < length line) × (is_in_field (get_or line start 0) ≡ true) × ((k : ℕ) → k < start → is_in_field (get_or line k 0) ≡ false) = position-Some is_in_field line start 0 found in
    let same : get_or (drop start line) 0 0 ≡ get_or line start 0 = get_or-drop start line 0 0 ∙ ap (λ n. get_or line n 0) (add-zero start) in
    record { some = omega (arith, length-drop start line); filled = not-true _ (rw same h.1) }

pub next_field_last : (line : List ℕ) (start : ℕ) → Some start ≡ position is_in_field line → None ≡ position is_blank (take (length line - start) (drop start line)) → fields_of line ≡ take (length line - start) (drop start line) ∷ []
next_field_last line start found missed =
    let missed' : None ≡ position is_blank (drop start line) = rw take_rest at missed in
    rw take_rest (fields_skip line start found ∙ fields_last (drop start line) (begins line start (sym found)).some (sym missed'))

pub next_field_first : (line : List ℕ) (start blank : ℕ) → Some start ≡ position is_in_field line → Some blank ≡ position is_blank (take (length line - start) (drop start line))
    → fields_of line ≡ take blank (take (length line - start) (drop start line)) ∷ fields_of (take (length (take (length line - start) (drop start line)) - (blank + 1)) (drop (blank + 1) (take (length line - start) (drop start line))))
next_field_first line start blank found ends =
    let ends' : Some blank ≡ position is_blank (drop start line) = rw take_rest at ends in
    simp take_rest (fields_skip line start found ∙ fields_first (drop start line) blank (begins line start (sym found)).filled (sym ends'))
