-- The longest text at the beginning.
use Rattle.std.proofs.Common.{◌≡◌, ℕ, zero, suc, ◌+◌, ◌-◌, ◌*◌, ◌<◌, ◌≤◌, Bool, true, false, ◌&&◌, cond, List, [], ◌∷◌, length, take, drop, Option, Some, None, refl, sym, ap, ◌∙◌, subst, inl, inr, ⊎_elim, ◌⊎◌, arith}
use Rattle.std.specs.Prelude.{slice_index, is_some, nat_eq, nat_le, option_map, option_and_then}
use Rattle.std.specs.List.{prefix_len}
use Rattle.std.specs.Char.{is_ascii_digit, is_ascii_hexdigit, digit_value}
use Rattle.std.specs.Str.Parse.{digits_value}
use Rattle.std.proofs.lemmas.Bool.{false≢true, cases_Bool, ne_eqb, eq-eqb, le-leb}
use Rattle.std.proofs.lemmas.Bool.Decides.{nat_tests}
use Rattle.ntx_syntax.proofs.NumeralLemmas.{digit_value-digit}
use Rattle.std.proofs.lemmas.List.{at_drop_more, length-take-le, drop-drop}
use Rattle.ntx_syntax.specs.declared.token.Sort.TheVariants as sort
use Rattle.ntx_syntax.specs.declared.fault.SyntaxWhy.TheVariants as why
use Rattle.ntx_syntax.specs.declared.piece.Piece.TheVariants.{Token, Wrong}
use Rattle.ntx_syntax.specs.Bytes.{is_quote, is_line_end}
use Rattle.ntx_syntax.specs.Values.{plain_escape, decimal_escape, hexadecimal_escape, escape_of, escape, characters, if_empty, text_value}
use Rattle.ntx_syntax.specs.Pieces.{text_piece, piece_if}
use Rattle.ntx_syntax.specs.inner.Front.{IsFrontOf, quoted_len}
use Rattle.ntx_syntax.proofs.RunLemmas.{slice_index-take}
use Rattle.ntx_syntax.proofs.OptionLemmas.{is_at, is_at-zero, is_at-suc, is_some-map, map-zero, map-suc, map-suc_more, map-more, same_choice}

-- ---- escapes

-- an escape that is there takes so many bytes at least
abbrev Reaches : ℕ → Option (ℕ × ℕ) → Type 0
Reaches m None = Unit {0}
Reaches m (Some e) = m ≤ e.1

-- Two answers are one, or both take so many bytes at least.
abbrev Alike : ℕ → Option (ℕ × ℕ) → Option (ℕ × ℕ) → Type 0
Alike m x y = (x ≡ y) ⊎ (Reaches m x × Reaches m y)

reaches_zero : (x : Option (ℕ × ℕ)) → Reaches 0 x
reaches_zero None = tt
reaches_zero (Some e) = omega arith

reaches_choice : (m : ℕ) (b : Bool) (x y : Option (ℕ × ℕ)) → (b ≡ true → Reaches m x) → (b ≡ false → Reaches m y) → Reaches m (cond b x y)
reaches_choice m true x y p q = p refl
reaches_choice m false x y p q = q refl

alike_choice : (m : ℕ) (b : Bool) (x y u v : Option (ℕ × ℕ)) → (b ≡ true → Alike m x u) → (b ≡ false → Alike m y v) → Alike m (cond b x y) (cond b u v)
alike_choice m true x y u v p q = p refl
alike_choice m false x y u v p q = q refl

reaches_value : (m : ℕ) (b : Bool) (value count : ℕ) → m ≤ count → Reaches m (cond b (Some (value, count)) None)
reaches_value m true value count h = h
reaches_value m false value count h = tt

reaches_plain : (o : Option ℕ) → Reaches 1 (option_map (λ value. (value, 1)) o)
reaches_plain None = tt
reaches_plain (Some value) = omega arith

hexadecimal_reaches : (m high low : ℕ) → m ≤ 3 → Reaches m (hexadecimal_escape high low)
hexadecimal_reaches m high low h = reaches_value m (is_ascii_hexdigit high && is_ascii_hexdigit low) (digits_value 16 (high ∷ low ∷ [])) 3 h

decimal_reaches : (m c d e : ℕ) → m ≤ prefix_len is_ascii_digit (c ∷ d ∷ e ∷ []) → Reaches m (decimal_escape (c ∷ d ∷ e ∷ []))
decimal_reaches m c d e h =
    let count = prefix_len is_ascii_digit (c ∷ d ∷ e ∷ []) in
    let value = digits_value 10 (take count (c ∷ d ∷ e ∷ [])) in
    reaches_value m (nat_le value 255) value count h

one_digit : (c : Bool) (k : ℕ) → c ≡ true → 1 ≤ cond c (1 + k) 0
one_digit c k h = rw h (omega arith)

two_digits : (c d : Bool) (k : ℕ) → c ≡ true → d ≡ true → 2 ≤ cond c (1 + cond d (1 + k) 0) 0
two_digits c d k p q = rw (p, q) (omega arith)

one_only : (c d : Bool) (k : ℕ) → c ≡ true → d ≡ false → cond c (1 + cond d (1 + k) 0) 0 ≡ 1
one_only c d k p q = rw (p, q) refl

escape_reaches : (c d e : ℕ) → Reaches 1 (escape_of c d e)
escape_reaches c d e =
    reaches_choice 1 (nat_eq c 120) (hexadecimal_escape d e) _ (λ _. hexadecimal_reaches 1 d e (omega arith))
    (λ _. reaches_choice 1 (is_ascii_digit c) (decimal_escape (c ∷ d ∷ e ∷ [])) _ (λ digit. decimal_reaches 1 c d e (one_digit (is_ascii_digit c) _ digit)) (λ _. reaches_plain (plain_escape c)))

-- A third byte matters only to escapes of two bytes or more.
decimal_alike : (c d e f : ℕ) → is_ascii_digit c ≡ true → Alike 2 (decimal_escape (c ∷ d ∷ e ∷ [])) (decimal_escape (c ∷ d ∷ f ∷ []))
decimal_alike c d e f digit =
    ⊎_elim
    (λ second. inr (decimal_reaches 2 c d e (two_digits (is_ascii_digit c) (is_ascii_digit d) _ digit second), decimal_reaches 2 c d f (two_digits (is_ascii_digit c) (is_ascii_digit d) _ digit second)))
    (λ no_second.
    let escaped : ℕ → ℕ → Option (ℕ × ℕ) = λ g count. (let value = digits_value 10 (take count (c ∷ d ∷ g ∷ [])) in cond (nat_le value 255) (Some (value, count)) None) in
    inl (ap (escaped e) (one_only (is_ascii_digit c) (is_ascii_digit d) _ digit no_second) ∙ sym (ap (escaped f) (one_only (is_ascii_digit c) (is_ascii_digit d) _ digit no_second))))
    (cases_Bool (is_ascii_digit d))

escape_alike : (c d e f : ℕ) → Alike 2 (escape_of c d e) (escape_of c d f)
escape_alike c d e f =
    alike_choice 2 (nat_eq c 120) (hexadecimal_escape d e) _ (hexadecimal_escape d f) _
    (λ _. inr (hexadecimal_reaches 2 d e (omega arith), hexadecimal_reaches 2 d f (omega arith)))
    (λ _. alike_choice 2 (is_ascii_digit c) (decimal_escape (c ∷ d ∷ e ∷ [])) _ (decimal_escape (c ∷ d ∷ f ∷ [])) _ (λ digit. decimal_alike c d e f digit) (λ _. inl refl))

-- The escape of a prefix is that of the whole, unless both go to the end of the prefix or past it.
escape-take : (m : ℕ) (bytes : List ℕ) → Alike m (escape (take m bytes)) (escape bytes)
escape-take zero bytes = inr (reaches_zero (escape (take 0 bytes)), reaches_zero (escape bytes))
escape-take (suc zero) bytes =
    inr (escape_reaches (slice_index (take 1 bytes) 0) (slice_index (take 1 bytes) 1) (slice_index (take 1 bytes) 2), escape_reaches (slice_index bytes 0) (slice_index bytes 1) (slice_index bytes 2))
escape-take (suc (suc zero)) bytes =
    let c : slice_index (take 2 bytes) 0 ≡ slice_index bytes 0 = slice_index-take 2 bytes 0 (omega arith) in
    let d : slice_index (take 2 bytes) 1 ≡ slice_index bytes 1 = slice_index-take 2 bytes 1 (omega arith) in
    let front : escape (take 2 bytes) ≡ escape_of (slice_index bytes 0) (slice_index bytes 1) (slice_index (take 2 bytes) 2) = λ i. escape_of (c i) (d i) (slice_index (take 2 bytes) 2) in
    subst (λ (x : Option (ℕ × ℕ)). Alike 2 x (escape bytes)) (sym front) (escape_alike (slice_index bytes 0) (slice_index bytes 1) (slice_index (take 2 bytes) 2) (slice_index bytes 2))
escape-take (suc (suc (suc m))) bytes =
    let c : slice_index (take (suc (suc (suc m))) bytes) 0 ≡ slice_index bytes 0 = slice_index-take (suc (suc (suc m))) bytes 0 (omega arith) in
    let d : slice_index (take (suc (suc (suc m))) bytes) 1 ≡ slice_index bytes 1 = slice_index-take (suc (suc (suc m))) bytes 1 (omega arith) in
    let e : slice_index (take (suc (suc (suc m))) bytes) 2 ≡ slice_index bytes 2 = slice_index-take (suc (suc (suc m))) bytes 2 (omega arith) in
    inl (λ i. escape_of (c i) (d i) (e i))

-- ---- the end of a text

-- a text does not end within an escape
not_at_zero : {X : Type 0} (quote end slash : Bool) (e : Option X) (f : X → Option ℕ) (o : Option ℕ) → is_at zero (cond quote (Some 1) (cond end None (cond slash (option_and_then (λ x. option_map suc (f x)) e) (option_map suc o)))) ≡ false
not_at_zero true end slash e f o = refl
not_at_zero false true slash e f o = refl
not_at_zero false false true None f o = refl
not_at_zero false false true (Some x) f o = is_at-zero (f x)
not_at_zero false false false e f o = is_at-zero o

within_escape : (quote k : ℕ) (bytes : List ℕ) (m : ℕ) → m ≤ k → is_at m (quoted_len quote k bytes) ≡ false
within_escape quote k [] m h = refl
within_escape quote (suc k) (b ∷ bytes) zero h = is_at-zero (quoted_len quote k bytes)
within_escape quote (suc k) (b ∷ bytes) (suc m) h = is_at-suc m (quoted_len quote k bytes) ∙ within_escape quote k bytes m (omega arith)
within_escape quote zero (b ∷ bytes) (suc m) h = absurd (omega arith)
within_escape quote zero (b ∷ bytes) zero h = not_at_zero (nat_eq b quote) (is_line_end b) (nat_eq b 92) (escape bytes) (λ e. quoted_len quote e.1 bytes) (quoted_len quote 0 bytes)

-- whether the bytes after an escape, or none, are characters to the end
after_escape : (quote : ℕ) (bytes : List ℕ) (m : ℕ) (x y : Option (ℕ × ℕ)) → ((k : ℕ) → is_some (characters quote k (take m bytes)) ≡ is_at m (quoted_len quote k bytes)) → Alike m x y → is_some (option_and_then (λ e. option_map (λ others. e.0 ∷ others) (characters quote e.1 (take m bytes))) x) ≡ is_at (suc m) (option_and_then (λ e. option_map suc (quoted_len quote e.1 bytes)) y)
after_escape quote bytes m x y others alike = ⊎_elim
    (λ same. subst (λ (z : Option (ℕ × ℕ)). is_some (option_and_then (λ e. option_map (λ others. e.0 ∷ others) (characters quote e.1 (take m bytes))) x) ≡ is_at (suc m) (option_and_then (λ e. option_map suc (quoted_len quote e.1 bytes)) z)) same (same_escape x))
    (λ both. no_characters x both.0 ∙ sym (no_length y both.1))
    alike
  where
    same_escape : (z : Option (ℕ × ℕ)) → is_some (option_and_then (λ e. option_map (λ others. e.0 ∷ others) (characters quote e.1 (take m bytes))) z) ≡ is_at (suc m) (option_and_then (λ e. option_map suc (quoted_len quote e.1 bytes)) z)
    same_escape None = refl
    same_escape (Some e) = is_some-map (λ others. e.0 ∷ others) (characters quote e.1 (take m bytes)) ∙ others e.1 ∙ sym (is_at-suc m (quoted_len quote e.1 bytes))

    no_characters : (z : Option (ℕ × ℕ)) → Reaches m z → is_some (option_and_then (λ e. option_map (λ others. e.0 ∷ others) (characters quote e.1 (take m bytes))) z) ≡ false
    no_characters None reaches = refl
    no_characters (Some e) reaches = is_some-map (λ others. e.0 ∷ others) (characters quote e.1 (take m bytes)) ∙ others e.1 ∙ within_escape quote e.1 bytes m reaches

    no_length : (z : Option (ℕ × ℕ)) → Reaches m z → is_at (suc m) (option_and_then (λ e. option_map suc (quoted_len quote e.1 bytes)) z) ≡ false
    no_length None reaches = refl
    no_length (Some e) reaches = is_at-suc m (quoted_len quote e.1 bytes) ∙ within_escape quote e.1 bytes m reaches

empty_front : (m : ℕ) (bytes : List ℕ) → m ≤ length bytes → is_some (if_empty (take m bytes)) ≡ nat_eq 1 (suc m)
empty_front zero bytes h = refl
empty_front (suc m) [] h = absurd (omega arith)
empty_front (suc m) (b ∷ bytes) h = sym (ne_eqb 1 (suc (suc m)) (λ e. omega arith))

-- A prefix is characters and the closing quote exactly if it has the length of the text.
pub characters-take : (quote k : ℕ) (bytes : List ℕ) (m : ℕ) → m ≤ length bytes → is_some (characters quote k (take m bytes)) ≡ is_at m (quoted_len quote k bytes)
characters-take quote k [] zero h = refl
characters-take quote k [] (suc m) h = refl
characters-take quote (suc k) (b ∷ bytes) zero h = sym (is_at-zero (quoted_len quote k bytes))
characters-take quote (suc k) (b ∷ bytes) (suc m) h = characters-take quote k bytes m (omega arith) ∙ sym (is_at-suc m (quoted_len quote k bytes))
characters-take quote zero (b ∷ bytes) zero h = sym (not_at_zero (nat_eq b quote) (is_line_end b) (nat_eq b 92) (escape bytes) (λ e. quoted_len quote e.1 bytes) (quoted_len quote 0 bytes))
characters-take quote zero (b ∷ bytes) (suc m) h =
    same_choice (nat_eq b quote) (if_empty (take m bytes)) _ (suc m) (Some 1) _ (λ _. empty_front m bytes (omega arith))
    (λ _. same_choice (is_line_end b) None _ (suc m) None _ (λ _. refl)
    (λ _. same_choice (nat_eq b 92) (option_and_then (λ e. option_map (λ others. e.0 ∷ others) (characters quote e.1 (take m bytes))) (escape (take m bytes))) _ (suc m) (option_and_then (λ e. option_map suc (quoted_len quote e.1 bytes)) (escape bytes)) _
    (λ _. after_escape quote bytes m (escape (take m bytes)) (escape bytes) (λ k. characters-take quote k bytes m (omega arith)) (escape-take m bytes))
    (λ _. is_some-map (λ others. b ∷ others) (characters quote 0 (take m bytes)) ∙ characters-take quote 0 bytes m (omega arith) ∙ sym (is_at-suc m (quoted_len quote 0 bytes)))))

-- ---- texts at the beginning

text_piece_is : (some one : Bool) → some ≡ true → cond some (Some (Token sort.Text)) (piece_if one (Wrong why.Text)) ≡ Some (Token sort.Text)
text_piece_is some one h = rw h refl

no_text_piece : (some one : Bool) → some ≡ false → one ≡ false → cond some (Some (Token sort.Text)) (piece_if one (Wrong why.Text)) ≡ None
no_text_piece some one h e = rw (h, e) refl

lone_quote : (some one : Bool) → some ≡ false → one ≡ true → cond some (Some (Token sort.Text)) (piece_if one (Wrong why.Text)) ≡ Some (Wrong why.Text)
lone_quote some one h e = rw (h, e) refl

-- A prefix with a quote is a text exactly if it has the length of one.
text_value-take : (quote : ℕ) (bytes : List ℕ) (m : ℕ) → is_quote quote ≡ true → m ≤ length bytes → is_some (text_value (quote ∷ take m bytes)) ≡ is_at m (quoted_len quote 0 bytes)
text_value-take quote bytes m h within = ap (λ t. is_some (cond t (characters quote 0 (take m bytes)) None)) h ∙ characters-take quote 0 bytes m within

at_some : (n : ℕ) → is_at n (Some n) ≡ true
at_some n = eq-eqb n n refl

not_past_some : (n m : ℕ) → n < m → is_at m (Some n) ≡ false
not_past_some n m h = ne_eqb n m (λ e. omega arith)

longer_than_one : (quote : ℕ) (bytes : List ℕ) (m : ℕ) → 0 < m → m ≤ length bytes → nat_eq (length (quote ∷ take m bytes)) 1 ≡ false
longer_than_one quote bytes m some within = let long = length-take-le m bytes within in ne_eqb (suc (length (take m bytes))) 1 (λ e. omega arith)

pub text_right : (bytes : List ℕ) (len : ℕ) → is_quote (slice_index bytes 0) ≡ true → quoted_len (slice_index bytes 0) 0 (drop 1 bytes) ≡ Some len → len ≤ length (drop 1 bytes) → IsFrontOf text_piece bytes (len + 1) (Token sort.Text)
text_right [] len quote closed within = absurd (false≢true quote)
text_right (b ∷ bytes) len quote closed within =
    let at : len + 1 ≡ suc len = omega arith in
    subst (λ n. IsFrontOf text_piece (b ∷ bytes) n (Token sort.Text)) (sym at) (record {
      some = omega arith;
      within = omega arith;
      spells = text_piece_is (is_some (text_value (b ∷ take len bytes))) (nat_eq (length (b ∷ take len bytes)) 1) (text_value-take b bytes len quote within ∙ ap (is_at len) closed ∙ at_some len);
      longest = longer;
    })
  where
    longer : (n : ℕ) → suc len < n → n ≤ length (b ∷ bytes) → text_piece (take n (b ∷ bytes)) ≡ None
    longer zero more whole = absurd (omega arith)
    longer (suc m) more whole =
        no_text_piece (is_some (text_value (b ∷ take m bytes))) (nat_eq (length (b ∷ take m bytes)) 1)
        (text_value-take b bytes m quote (omega arith) ∙ ap (is_at m) closed ∙ not_past_some len m (omega arith))
        (longer_than_one b bytes m (omega arith) (omega arith))

pub text_open : (bytes : List ℕ) → is_quote (slice_index bytes 0) ≡ true → quoted_len (slice_index bytes 0) 0 (drop 1 bytes) ≡ None → IsFrontOf text_piece bytes 1 (Wrong why.Text)
text_open [] quote unclosed = absurd (false≢true quote)
text_open (b ∷ bytes) quote unclosed = record {
  some = omega arith;
  within = omega arith;
  spells = lone_quote (is_some (text_value (b ∷ []))) true (text_value-take b bytes 0 quote (omega arith) ∙ ap (is_at 0) unclosed) refl;
  longest = longer;
}
  where
    longer : (n : ℕ) → 1 < n → n ≤ length (b ∷ bytes) → text_piece (take n (b ∷ bytes)) ≡ None
    longer zero more whole = absurd (omega arith)
    longer (suc m) more whole =
        no_text_piece (is_some (text_value (b ∷ take m bytes))) (nat_eq (length (b ∷ take m bytes)) 1)
        (text_value-take b bytes m quote (omega arith) ∙ ap (is_at m) unclosed)
        (longer_than_one b bytes m (omega arith) (omega arith))

-- ---- the search for the end

quoted_len-drop : (quote k : ℕ) (bytes : List ℕ) → quoted_len quote k bytes ≡ option_map (λ n. k + n) (quoted_len quote 0 (drop k bytes))
quoted_len-drop quote zero bytes = sym (map-zero (quoted_len quote 0 bytes))
quoted_len-drop quote (suc k) [] = refl
quoted_len-drop quote (suc k) (b ∷ bytes) = ap (option_map suc) (quoted_len-drop quote k bytes) ∙ map-suc k (quoted_len quote 0 (drop k bytes))

-- the search at one byte, by the tests of the byte
abbrev step : Bool → Bool → Bool → Option ℕ → Option ℕ → Option ℕ
step closes ends slash escaped others = cond closes (Some 1) (cond ends None (cond slash escaped (option_map suc others)))

abbrev escaped_len : ℕ → List ℕ → Option (ℕ × ℕ) → Option ℕ
escaped_len quote bytes e = option_and_then (λ x. option_map suc (quoted_len quote x.1 bytes)) e

abbrev by_len : ℕ → List ℕ → Option ℕ → Option ℕ
by_len quote bytes len = option_and_then (λ k. option_map suc (quoted_len quote k bytes)) len

by_len_is : (quote : ℕ) (bytes : List ℕ) (e : Option (ℕ × ℕ)) → by_len quote bytes (option_map (λ x. x.1) e) ≡ escaped_len quote bytes e
by_len_is quote bytes None = refl
by_len_is quote bytes (Some e) = refl

-- Up to a place nothing has closed the text: what is found from there on is what is found in all.
module _ (quote at : ℕ) (bytes : List ℕ) (total : Option ℕ) (so_far : option_map (λ n. at + n) (quoted_len quote 0 (drop at bytes)) ≡ total) (within : at < length bytes) where
  abbrev b : ℕ
  b = slice_index bytes at

  abbrev rest : List ℕ
  rest = drop (at + 1) bytes

  next_is : option_map (λ n. at + n) (step (nat_eq b quote) (is_line_end b) (nat_eq b 92) (escaped_len quote rest (escape rest)) (quoted_len quote 0 rest)) ≡ total
  next_is = sym (at_drop_more (λ others. option_map (λ n. at + n) (quoted_len quote 0 others)) bytes at 0 within) ∙ so_far

  step_is : (closes ends slash : Bool) → nat_eq b quote ≡ closes → is_line_end b ≡ ends → nat_eq b 92 ≡ slash → option_map (λ n. at + n) (step closes ends slash (escaped_len quote rest (escape rest)) (quoted_len quote 0 rest)) ≡ total
  step_is closes ends slash c e s = (λ i. option_map (λ n. at + n) (step (sym c i) (sym e i) (sym s i) (escaped_len quote rest (escape rest)) (quoted_len quote 0 rest))) ∙ next_is

  pub closes_here : nat_eq b quote ≡ true → Some (at + 1) ≡ total
  closes_here h = step_is true (is_line_end b) (nat_eq b 92) h refl refl

  pub ends_here : nat_eq b quote ≡ false → is_line_end b ≡ true → None ≡ total
  ends_here c h = step_is false true (nat_eq b 92) c h refl

  pub plain_here : nat_eq b quote ≡ false → is_line_end b ≡ false → nat_eq b 92 ≡ false → option_map (λ n. at + 1 + n) (quoted_len quote 0 rest) ≡ total
  plain_here c e s = sym (map-suc_more at (quoted_len quote 0 rest)) ∙ step_is false false false c e s

  pub no_escape_here : nat_eq b quote ≡ false → is_line_end b ≡ false → nat_eq b 92 ≡ true → option_map (λ e. e.1) (escape rest) ≡ None → None ≡ total
  no_escape_here c e s none = ap (λ x. option_map (λ n. at + n) (by_len quote rest x)) (sym none) ∙ ap (option_map (λ n. at + n)) (by_len_is quote rest (escape rest)) ∙ step_is false false true c e s

  pub escape_here : nat_eq b quote ≡ false → is_line_end b ≡ false → nat_eq b 92 ≡ true → (k : ℕ) → option_map (λ e. e.1) (escape rest) ≡ Some k → option_map (λ n. at + 1 + k + n) (quoted_len quote 0 (drop (at + 1 + k) bytes)) ≡ total
  escape_here c e s k is =
      let later : drop k rest ≡ drop (at + 1 + k) bytes = drop-drop k (at + 1) bytes in
      ap (λ others. option_map (λ n. at + 1 + k + n) (quoted_len quote 0 others)) (sym later)
      ∙ sym (map-more (at + 1) k (quoted_len quote 0 (drop k rest)))
      ∙ ap (option_map (λ n. at + 1 + n)) (sym (quoted_len-drop quote k rest))
      ∙ sym (map-suc_more at (quoted_len quote k rest))
      ∙ ap (λ x. option_map (λ n. at + n) (by_len quote rest x)) (sym is)
      ∙ ap (option_map (λ n. at + n)) (by_len_is quote rest (escape rest))
      ∙ step_is false false true c e s

-- ---- an escape of two digits

pub two_digit_escape : (c d e : ℕ) → is_ascii_digit c ≡ true → is_ascii_digit d ≡ true → is_ascii_digit e ≡ false → Some ((c - 48) * 10 + (d - 48), 2) ≡ decimal_escape (c ∷ d ∷ e ∷ [])
two_digit_escape c d e p q r =
    let escaped : ℕ → Option (ℕ × ℕ) = λ count. (let value = digits_value 10 (take count (c ∷ d ∷ e ∷ [])) in cond (nat_le value 255) (Some (value, count)) None) in
    let value : (0 * 10 + digit_value c) * 10 + digit_value d ≡ (c - 48) * 10 + (d - 48) = omega (arith, digit_value-digit c p, digit_value-digit d q) in
    let tens : c - 48 ≤ 9 = digit_small c p in
    let ones : d - 48 ≤ 9 = digit_small d q in
    sym (ap escaped (two_only (is_ascii_digit c) (is_ascii_digit d) (is_ascii_digit e) p q r)
    ∙ (λ i. cond (nat_le (value i) 255) (Some (value i, 2)) None)
    ∙ ap (λ t. cond t (Some ((c - 48) * 10 + (d - 48), 2)) None) (le-leb ((c - 48) * 10 + (d - 48)) 255 (omega arith)))
  where
    digit_small : (d : ℕ) → is_ascii_digit d ≡ true → d - 48 ≤ 9
    digit_small d h = grind (arith, nat_tests)

    two_only : (c d e : Bool) → c ≡ true → d ≡ true → e ≡ false → cond c (1 + cond d (1 + cond e (1 + 0) 0) 0) 0 ≡ 2
    two_only c d e p q r = rw (p, q, r) refl
