-- The longest piece at the beginning, by its first byte.
use Rattle.std.proofs.Common.{◌≡◌, ℕ, zero, suc, ◌<◌, ◌≤◌, Bool, true, false, ◌&&◌, cond, List, [], ◌∷◌, length, take, drop, Option, None, refl, ap, ◌∙◌, arith}
use Rattle.std.specs.Prelude.{slice_index, nat_eq}
use Rattle.std.specs.Char.{is_ascii_digit}
use Rattle.std.proofs.lemmas.Bool.{ne_eqb}
use Rattle.std.proofs.lemmas.List.{length-take-le}
use Rattle.ntx_syntax.specs.declared.piece.Piece.{Piece}
use Rattle.ntx_syntax.specs.declared.piece.Piece.TheVariants.{Gap}
use Rattle.ntx_syntax.specs.Bytes.{is_blank, begins_name, is_quote}
use Rattle.ntx_syntax.specs.Pieces.{piece_of, piece_if, word_piece, numeral_piece, text_piece, comment_piece, begins_comment, symbol_piece}
use Rattle.ntx_syntax.specs.inner.Front.{IsFrontOf, IsFront}

abbrev pub choice : Bool → Bool → Bool → Bool → Bool → (gap word numeral text comment symbol : Option Piece) → Option Piece
choice blank name digit quote dashes gap word numeral text comment symbol =
    cond blank gap (cond name word (cond digit numeral (cond quote text (cond dashes comment symbol))))

-- A prefix of pieces of one sort is one of pieces, where all prefixes that are as long or longer are of that sort.
front_as : (spelled : List ℕ → Option Piece) (bytes : List ℕ) (len : ℕ) (piece : Piece) → IsFrontOf spelled bytes len piece → ((n : ℕ) → len ≤ n → n ≤ length bytes → piece_of (take n bytes) ≡ spelled (take n bytes)) → IsFront bytes len piece
front_as spelled bytes len piece h same = record {
  some = h.some;
  within = h.within;
  spells = same len (omega arith) h.within ∙ h.spells;
  longest = λ n more whole. same n (omega arith) whole ∙ h.longest n more whole;
}

as_gap : (blank name digit quote dashes : Bool) (gap word numeral text comment symbol : Option Piece) → blank ≡ true → choice blank name digit quote dashes gap word numeral text comment symbol ≡ gap
as_gap blank name digit quote dashes gap word numeral text comment symbol p = rw p refl

as_word : (blank name digit quote dashes : Bool) (gap word numeral text comment symbol : Option Piece) → blank ≡ false → name ≡ true → choice blank name digit quote dashes gap word numeral text comment symbol ≡ word
as_word blank name digit quote dashes gap word numeral text comment symbol p q = rw (p, q) refl

as_numeral : (blank name digit quote dashes : Bool) (gap word numeral text comment symbol : Option Piece) → blank ≡ false → name ≡ false → digit ≡ true → choice blank name digit quote dashes gap word numeral text comment symbol ≡ numeral
as_numeral blank name digit quote dashes gap word numeral text comment symbol p q r = rw (p, q, r) refl

as_text : (blank name digit quote dashes : Bool) (gap word numeral text comment symbol : Option Piece) → blank ≡ false → name ≡ false → digit ≡ false → quote ≡ true → choice blank name digit quote dashes gap word numeral text comment symbol ≡ text
as_text blank name digit quote dashes gap word numeral text comment symbol p q r s = rw (p, q, r, s) refl

as_comment : (blank name digit quote dashes : Bool) (gap word numeral text comment symbol : Option Piece) → blank ≡ false → name ≡ false → digit ≡ false → quote ≡ false → dashes ≡ true → choice blank name digit quote dashes gap word numeral text comment symbol ≡ comment
as_comment blank name digit quote dashes gap word numeral text comment symbol p q r s t = rw (p, q, r, s, t) refl

as_symbol : (blank name digit quote dashes : Bool) (gap word numeral text comment symbol : Option Piece) → blank ≡ false → name ≡ false → digit ≡ false → quote ≡ false → dashes ≡ false → choice blank name digit quote dashes gap word numeral text comment symbol ≡ symbol
as_symbol blank name digit quote dashes gap word numeral text comment symbol p q r s t = rw (p, q, r, s, t) refl

-- what bytes spell, by the tests of their first byte
abbrev pub by_tests : ℕ → List ℕ → Option Piece
by_tests b bytes = choice (is_blank b) (begins_name b) (is_ascii_digit b) (is_quote b) (begins_comment (b ∷ bytes)) (piece_if (nat_eq (length bytes) 0) Gap) (word_piece (b ∷ bytes)) (numeral_piece (b ∷ bytes)) (text_piece (b ∷ bytes)) (comment_piece (drop 1 bytes)) (symbol_piece (b ∷ bytes))

pub piece_of-cons : (b : ℕ) (bytes : List ℕ) → piece_of (b ∷ bytes) ≡ by_tests b bytes
unfolding piece_of
piece_of-cons b bytes = refl

gap_of : (b : ℕ) (bytes : List ℕ) → is_blank b ≡ true → piece_of (b ∷ bytes) ≡ piece_if (nat_eq (length bytes) 0) Gap
gap_of b bytes p = piece_of-cons b bytes ∙ as_gap (is_blank b) (begins_name b) (is_ascii_digit b) (is_quote b) (begins_comment (b ∷ bytes)) _ (word_piece (b ∷ bytes)) (numeral_piece (b ∷ bytes)) (text_piece (b ∷ bytes)) (comment_piece (drop 1 bytes)) (symbol_piece (b ∷ bytes)) p

pub blank_front : (bytes : List ℕ) → 0 < length bytes → is_blank (slice_index bytes 0) ≡ true → IsFront bytes 1 Gap
blank_front [] some blank = absurd (omega arith)
blank_front (b ∷ bytes) some blank = record {
  some = omega arith;
  within = omega arith;
  spells = gap_of b [] blank;
  longest = longer;
}
  where
    longer : (n : ℕ) → 1 < n → n ≤ length (b ∷ bytes) → piece_of (take n (b ∷ bytes)) ≡ None
    longer zero more whole = absurd (omega arith)
    longer (suc n) more whole = gap_of b (take n bytes) blank ∙ ap (λ t. piece_if t Gap) (ne_eqb (length (take n bytes)) 0 (λ e. omega (arith, length-take-le n bytes (omega arith))))

module _ (bytes : List ℕ) (len : ℕ) (piece : Piece) where
  pub word_as_front : is_blank (slice_index bytes 0) ≡ false → begins_name (slice_index bytes 0) ≡ true → IsFrontOf word_piece bytes len piece → IsFront bytes len piece
  word_as_front p q h = front_as word_piece bytes len piece h (same bytes p q)
    where
      same : (bytes : List ℕ) → is_blank (slice_index bytes 0) ≡ false → begins_name (slice_index bytes 0) ≡ true → (n : ℕ) → len ≤ n → n ≤ length bytes → piece_of (take n bytes) ≡ word_piece (take n bytes)
      same bytes p q zero more whole = absurd (omega (arith, h.some))
      same [] p q (suc n) more whole = absurd (omega arith)
      same (b ∷ bytes) p q (suc n) more whole =
          let rest = take n bytes in
          piece_of-cons b rest ∙ as_word (is_blank b) (begins_name b) (is_ascii_digit b) (is_quote b) (begins_comment (b ∷ rest)) (piece_if (nat_eq (length rest) 0) Gap) (word_piece (b ∷ rest)) (numeral_piece (b ∷ rest)) (text_piece (b ∷ rest)) (comment_piece (drop 1 rest)) (symbol_piece (b ∷ rest)) p q

  pub numeral_as_front : is_blank (slice_index bytes 0) ≡ false → begins_name (slice_index bytes 0) ≡ false → is_ascii_digit (slice_index bytes 0) ≡ true → IsFrontOf numeral_piece bytes len piece → IsFront bytes len piece
  numeral_as_front p q r h = front_as numeral_piece bytes len piece h (same bytes p q r)
    where
      same : (bytes : List ℕ) → is_blank (slice_index bytes 0) ≡ false → begins_name (slice_index bytes 0) ≡ false → is_ascii_digit (slice_index bytes 0) ≡ true → (n : ℕ) → len ≤ n → n ≤ length bytes → piece_of (take n bytes) ≡ numeral_piece (take n bytes)
      same bytes p q r zero more whole = absurd (omega (arith, h.some))
      same [] p q r (suc n) more whole = absurd (omega arith)
      same (b ∷ bytes) p q r (suc n) more whole =
          let rest = take n bytes in
          piece_of-cons b rest ∙ as_numeral (is_blank b) (begins_name b) (is_ascii_digit b) (is_quote b) (begins_comment (b ∷ rest)) (piece_if (nat_eq (length rest) 0) Gap) (word_piece (b ∷ rest)) (numeral_piece (b ∷ rest)) (text_piece (b ∷ rest)) (comment_piece (drop 1 rest)) (symbol_piece (b ∷ rest)) p q r

  pub text_as_front : is_blank (slice_index bytes 0) ≡ false → begins_name (slice_index bytes 0) ≡ false → is_ascii_digit (slice_index bytes 0) ≡ false → is_quote (slice_index bytes 0) ≡ true → IsFrontOf text_piece bytes len piece → IsFront bytes len piece
  text_as_front p q r s h = front_as text_piece bytes len piece h (same bytes p q r s)
    where
      same : (bytes : List ℕ) → is_blank (slice_index bytes 0) ≡ false → begins_name (slice_index bytes 0) ≡ false → is_ascii_digit (slice_index bytes 0) ≡ false → is_quote (slice_index bytes 0) ≡ true → (n : ℕ) → len ≤ n → n ≤ length bytes → piece_of (take n bytes) ≡ text_piece (take n bytes)
      same bytes p q r s zero more whole = absurd (omega (arith, h.some))
      same [] p q r s (suc n) more whole = absurd (omega arith)
      same (b ∷ bytes) p q r s (suc n) more whole =
          let rest = take n bytes in
          piece_of-cons b rest ∙ as_text (is_blank b) (begins_name b) (is_ascii_digit b) (is_quote b) (begins_comment (b ∷ rest)) (piece_if (nat_eq (length rest) 0) Gap) (word_piece (b ∷ rest)) (numeral_piece (b ∷ rest)) (text_piece (b ∷ rest)) (comment_piece (drop 1 rest)) (symbol_piece (b ∷ rest)) p q r s

  module _ (p : is_blank (slice_index bytes 0) ≡ false) (q : begins_name (slice_index bytes 0) ≡ false) (r : is_ascii_digit (slice_index bytes 0) ≡ false) (s : is_quote (slice_index bytes 0) ≡ false) where
    pub comment_as_front : begins_comment bytes ≡ true → 2 ≤ len → IsFrontOf (λ part. comment_piece (drop 2 part)) bytes len piece → IsFront bytes len piece
    comment_as_front t two h = front_as (λ part. comment_piece (drop 2 part)) bytes len piece h (same bytes p q r s t)
      where
        same : (bytes : List ℕ) → is_blank (slice_index bytes 0) ≡ false → begins_name (slice_index bytes 0) ≡ false → is_ascii_digit (slice_index bytes 0) ≡ false → is_quote (slice_index bytes 0) ≡ false → begins_comment bytes ≡ true → (n : ℕ) → len ≤ n → n ≤ length bytes → piece_of (take n bytes) ≡ comment_piece (drop 2 (take n bytes))
        same bytes p q r s t zero more whole = absurd (omega arith)
        same bytes p q r s t (suc zero) more whole = absurd (omega arith)
        same [] p q r s t (suc (suc n)) more whole = absurd (omega arith)
        same (b ∷ []) p q r s t (suc (suc n)) more whole = absurd (omega arith)
        same (b ∷ c ∷ bytes) p q r s t (suc (suc n)) more whole =
            let rest = c ∷ take n bytes in
            piece_of-cons b rest ∙ as_comment (is_blank b) (begins_name b) (is_ascii_digit b) (is_quote b) (begins_comment (b ∷ rest)) (piece_if (nat_eq (length rest) 0) Gap) (word_piece (b ∷ rest)) (numeral_piece (b ∷ rest)) (text_piece (b ∷ rest)) (comment_piece (drop 1 rest)) (symbol_piece (b ∷ rest)) p q r s t

    pub symbol_as_front : begins_comment bytes ≡ false → IsFrontOf symbol_piece bytes len piece → IsFront bytes len piece
    symbol_as_front t h = front_as symbol_piece bytes len piece h (same bytes p q r s t)
      where
        no_dash : (x y : Bool) → y ≡ false → (x && y) ≡ false
        no_dash true y e = e
        no_dash false y e = refl

        dashes : (b : ℕ) (bytes : List ℕ) (n : ℕ) → begins_comment (b ∷ bytes) ≡ false → begins_comment (b ∷ take n bytes) ≡ false
        dashes b bytes zero t = no_dash (nat_eq b 45) false refl
        dashes b [] (suc n) t = t
        dashes b (c ∷ bytes) (suc n) t = t

        same : (bytes : List ℕ) → is_blank (slice_index bytes 0) ≡ false → begins_name (slice_index bytes 0) ≡ false → is_ascii_digit (slice_index bytes 0) ≡ false → is_quote (slice_index bytes 0) ≡ false → begins_comment bytes ≡ false → (n : ℕ) → len ≤ n → n ≤ length bytes → piece_of (take n bytes) ≡ symbol_piece (take n bytes)
        same bytes p q r s t zero more whole = absurd (omega (arith, h.some))
        same [] p q r s t (suc n) more whole = absurd (omega arith)
        same (b ∷ bytes) p q r s t (suc n) more whole =
            let rest = take n bytes in
            piece_of-cons b rest ∙ as_symbol (is_blank b) (begins_name b) (is_ascii_digit b) (is_quote b) (begins_comment (b ∷ rest)) (piece_if (nat_eq (length rest) 0) Gap) (word_piece (b ∷ rest)) (numeral_piece (b ∷ rest)) (text_piece (b ∷ rest)) (comment_piece (drop 1 rest)) (symbol_piece (b ∷ rest)) p q r s (dashes b bytes n t)
