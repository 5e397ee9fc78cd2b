-- The longest numeral at the beginning.
use Rattle.std.proofs.Common.{◌≡◌, ℕ, zero, suc, ◌+◌, ◌-◌, ◌*◌, ◌^◌, ◌<◌, ◌≤◌, Bool, true, false, ◌&&◌, ◌||◌, cond, List, [], ◌∷◌, length, take, drop, Option, Some, None, ℤ, refl, sym, ap, ◌∙◌, subst, ⊎_elim, arith}
use Rattle.std.specs.Prelude.{slice_index, is_some, nat_lt, nat_eq}
use Rattle.std.specs.List.{prefix_len, list_all}
use Rattle.std.specs.Char.{is_ascii_digit, is_ascii_hexdigit, digit_value}
use Rattle.std.specs.Str.Parse.{digits_value, digits_value_after}
use Rattle.std.proofs.lemmas.Bool.{false≢true, cases_eq, cases_lt, eqb-true, and_parts, le-ltb, or_from, or_left, or_right, false_from_ne_true}
use Rattle.std.proofs.lemmas.Bool.Decides.{nat_tests}
use Rattle.std.proofs.lemmas.List.{length-take-le, take-take, get_or_past, at_drop_more}
use Rattle.std.proofs.lemmas.List.Sums.{prefix_len-le-length}
use Rattle.std.proofs.Math.Bool.{and-false}
use Rattle.ntx_syntax.specs.declared.token.Sort.TheVariants.{Numeral}
use Rattle.ntx_syntax.specs.declared.fault.SyntaxWhy.TheVariants as why
use Rattle.ntx_syntax.specs.declared.piece.Piece.TheVariants.{Token, Wrong}
use Rattle.ntx_syntax.specs.Bytes.{spoils_numeral}
use Rattle.ntx_syntax.specs.Values.{is_decimal, is_hexadecimal, numeral_value}
use Rattle.ntx_syntax.specs.Pieces.{numeral_piece, is_spoiled, piece_if}
use Rattle.ntx_syntax.specs.inner.Front.{IsFrontOf, EndsForm, begins_hexadecimal}
use Rattle.ntx_syntax.proofs.RunLemmas.{list_all-take, list_all-take_past, slice_index-take}

-- ---- values

-- more digits do not make a number smaller
pub digits_value-grows : (n : ℕ) (digits : List ℕ) → n ≤ digits_value_after 10 n digits
digits_value-grows n [] = omega arith
digits_value-grows n (d ∷ digits) = omega (arith, digits_value-grows (n * 10 + digit_value d) digits)

-- a number that is too large already stays too large
pub too_large : (n value : ℕ) (digits : List ℕ) → digits_value_after 10 n digits ≡ value → 2 ^ 63 ≤ n → nat_lt value (2 ^ 63) ≡ false
too_large n value digits is large = le-ltb value (2 ^ 63) (omega (arith, digits_value-grows n digits))

-- one digit more, at a place in the digits
too_large_at : (n i : ℕ) (digits : List ℕ) (value : ℕ) → digits_value_after 10 n (drop i digits) ≡ value → i < length digits → 2 ^ 63 ≤ n * 10 + digit_value (slice_index digits i) → nat_lt value (2 ^ 63) ≡ false
too_large_at n i digits value is within large = too_large (n * 10 + digit_value (slice_index digits i)) value (drop (i + 1) digits) (sym (at_drop_more (digits_value_after 10 n) digits i 0 within) ∙ is) large

pub too_large_before : (n i : ℕ) (digits : List ℕ) → digits_value_after 10 n (drop i digits) ≡ digits_value 10 digits → i < length digits → 922337203685477580 < n → nat_lt (digits_value 10 digits) (2 ^ 63) ≡ false
too_large_before n i digits is within large = too_large_at n i digits (digits_value 10 digits) is within (omega arith)

list_all-at : (p : ℕ → Bool) (xs : List ℕ) (i : ℕ) → list_all p xs ≡ true → i < length xs → p (slice_index xs i) ≡ true
list_all-at p [] i all within = absurd (omega arith)
list_all-at p (x ∷ xs) zero all within = (and_parts (p x) (list_all p xs) all).0
list_all-at p (x ∷ xs) (suc i) all within = list_all-at p xs i (and_parts (p x) (list_all p xs) all).1 (omega arith)

pub digit_value-digit : (d : ℕ) → is_ascii_digit d ≡ true → digit_value d ≡ d - 48
digit_value-digit d h = grind (arith, nat_tests)

pub too_large_after : (n i : ℕ) (digits : List ℕ) → list_all is_ascii_digit digits ≡ true → digits_value_after 10 n (drop i digits) ≡ digits_value 10 digits → i < length digits → 2 ^ 63 ≤ n * 10 + (slice_index digits i - 48) → nat_lt (digits_value 10 digits) (2 ^ 63) ≡ false
too_large_after n i digits all is within large =
    too_large_at n i digits (digits_value 10 digits) is within (omega (arith, digit_value-digit (slice_index digits i) (list_all-at is_ascii_digit digits i all within)))

-- ---- forms

abbrev has_form : List ℕ → Bool
has_form bytes = is_decimal bytes || is_hexadecimal bytes

-- a prefix with some bytes is decimal where all of them are digits
decimal-take : (n : ℕ) (bytes : List ℕ) → 0 < n → n ≤ length bytes → is_decimal (take n bytes) ≡ list_all is_ascii_digit (take n bytes)
decimal-take zero bytes some within = absurd (omega arith)
decimal-take (suc n) [] some within = absurd (omega arith)
decimal-take (suc n) (d ∷ ds) some within = refl

-- what has a hexadecimal form begins with `0x` and a digit
pub hexadecimal_begins : (bytes : List ℕ) → is_hexadecimal bytes ≡ true → begins_hexadecimal bytes ≡ true
hexadecimal_begins [] h = absurd (false≢true h)
hexadecimal_begins (o ∷ []) h = absurd (false≢true h)
hexadecimal_begins (o ∷ x ∷ []) h = absurd (false≢true h)
hexadecimal_begins (o ∷ x ∷ d ∷ ds) h = (and_parts _ _ h).0

begins-take : (n : ℕ) (bytes : List ℕ) → begins_hexadecimal (take n bytes) ≡ true → begins_hexadecimal bytes ≡ true
begins-take zero bytes h = absurd (false≢true h)
begins-take (suc zero) [] h = absurd (false≢true h)
begins-take (suc zero) (o ∷ bytes) h = absurd (false≢true (sym (and-false _) ∙ h))
begins-take (suc (suc zero)) [] h = absurd (false≢true h)
begins-take (suc (suc zero)) (o ∷ []) h = absurd (false≢true (sym (and-false _) ∙ h))
begins-take (suc (suc zero)) (o ∷ x ∷ bytes) h = absurd (false≢true (sym (and-false _) ∙ h))
begins-take (suc (suc (suc n))) [] h = absurd (false≢true h)
begins-take (suc (suc (suc n))) (o ∷ []) h = h
begins-take (suc (suc (suc n))) (o ∷ x ∷ []) h = h
begins-take (suc (suc (suc n))) (o ∷ x ∷ d ∷ ds) h = h

-- ---- the end of a numeral

some_digits : (bytes : List ℕ) → is_ascii_digit (slice_index bytes 0) ≡ true → 0 < prefix_len is_ascii_digit bytes
some_digits [] h = absurd (false≢true h)
some_digits (b ∷ bytes) h = rw h (omega arith)

both_true : (x y : Bool) → x ≡ true → y ≡ true → (x && y) ≡ true
both_true x y p q = rw (p, q) refl

pub decimal_ends : (bytes : List ℕ) (len : ℕ) → is_ascii_digit (slice_index bytes 0) ≡ true → begins_hexadecimal bytes ≡ false → len ≡ prefix_len is_ascii_digit bytes → EndsForm bytes len
decimal_ends bytes len digit plain len_is =
    let some : 0 < len = omega (arith, len_is, some_digits bytes digit) in
    let within : len ≤ length bytes = omega (arith, len_is, prefix_len-le-length is_ascii_digit bytes) in
    record {
      some = some;
      within = within;
      form = or_left _ _ (decimal-take len bytes some within ∙ list_all-take is_ascii_digit len bytes (omega (arith, len_is)));
      past = λ n more whole. or_from _ _
          (decimal-take n bytes (omega arith) whole ∙ list_all-take_past is_ascii_digit n bytes (omega (arith, len_is)) whole)
          (false_from_ne_true _ (λ hexadecimal. false≢true (sym plain ∙ begins-take n bytes (hexadecimal_begins (take n bytes) hexadecimal))));
    }

-- The digits before an `x` are not more than one.
pub x_is_no_digit : (x : ℕ) → nat_eq x 120 ≡ true → is_ascii_digit x ≡ false
x_is_no_digit x h = rw (eqb-true x 120 h) refl

short_run : (o x : Bool) (k : ℕ) → x ≡ false → cond o (1 + cond x (1 + k) 0) 0 ≤ 1
short_run true x k h = rw h (omega arith)
short_run false x k h = omega arith

hexadecimal_at : (o x d : ℕ) (ds : List ℕ) (b : Bool) → begins_hexadecimal (o ∷ x ∷ d ∷ ds) ≡ true → list_all is_ascii_hexdigit ds ≡ b → is_hexadecimal (o ∷ x ∷ d ∷ ds) ≡ b
hexadecimal_at o x d ds b begins all = ap (λ t. t && list_all is_ascii_hexdigit ds) begins ∙ all

hexadecimal_past : (o x d : ℕ) (ds : List ℕ) (n : ℕ) → begins_hexadecimal (o ∷ x ∷ d ∷ ds) ≡ true → 3 + prefix_len is_ascii_hexdigit ds < n → n ≤ length (o ∷ x ∷ d ∷ ds) → is_hexadecimal (take n (o ∷ x ∷ d ∷ ds)) ≡ false
hexadecimal_past o x d ds zero begins more whole = refl
hexadecimal_past o x d ds (suc zero) begins more whole = refl
hexadecimal_past o x d ds (suc (suc zero)) begins more whole = refl
hexadecimal_past o x d ds (suc (suc (suc n))) begins more whole =
    hexadecimal_at o x d (take n ds) false begins (list_all-take_past is_ascii_hexdigit n ds (omega arith) (omega arith))

hexadecimal_form : (o x d : ℕ) (ds : List ℕ) (n : ℕ) → begins_hexadecimal (o ∷ x ∷ d ∷ ds) ≡ true → n ≡ 3 + prefix_len is_ascii_hexdigit ds → is_hexadecimal (take n (o ∷ x ∷ d ∷ ds)) ≡ true
hexadecimal_form o x d ds zero begins is = absurd (omega arith)
hexadecimal_form o x d ds (suc zero) begins is = absurd (omega arith)
hexadecimal_form o x d ds (suc (suc zero)) begins is = absurd (omega arith)
hexadecimal_form o x d ds (suc (suc (suc n))) begins is =
    hexadecimal_at o x d (take n ds) true begins (list_all-take is_ascii_hexdigit n ds (omega arith))

pub hexadecimal_ends : (bytes : List ℕ) (len : ℕ) → begins_hexadecimal bytes ≡ true → len ≡ 2 + prefix_len is_ascii_hexdigit (drop 2 bytes) → EndsForm bytes len
hexadecimal_ends [] len begins len_is = absurd (false≢true begins)
hexadecimal_ends (o ∷ []) len begins len_is = absurd (false≢true (sym (and-false _) ∙ begins))
hexadecimal_ends (o ∷ x ∷ []) len begins len_is = absurd (false≢true (sym (and-false _) ∙ begins))
hexadecimal_ends (o ∷ x ∷ d ∷ ds) len begins len_is =
    let parts = and_parts (nat_eq o 48 && nat_eq x 120) (is_ascii_hexdigit d) begins in
    let digits : len ≡ 3 + prefix_len is_ascii_hexdigit ds = len_is ∙ ap (λ t. 2 + cond t (1 + prefix_len is_ascii_hexdigit ds) 0) parts.1 ∙ omega arith in
    let bound = prefix_len-le-length is_ascii_hexdigit ds in
    let no_digit : is_ascii_digit x ≡ false = x_is_no_digit x (and_parts (nat_eq o 48) (nat_eq x 120) parts.0).1 in
    let short : prefix_len is_ascii_digit (o ∷ x ∷ d ∷ ds) ≤ 1 = short_run (is_ascii_digit o) (is_ascii_digit x) (prefix_len is_ascii_digit (d ∷ ds)) no_digit in
    record {
      some = omega arith;
      within = omega arith;
      form = or_right _ _ (hexadecimal_form o x d ds len begins digits);
      past = λ n more whole. or_from _ _
          (decimal-take n (o ∷ x ∷ d ∷ ds) (omega arith) whole ∙ list_all-take_past is_ascii_digit n (o ∷ x ∷ d ∷ ds) (omega (arith, short)) whole)
          (hexadecimal_past o x d ds n begins (omega arith) whole);
    }

-- ---- numerals and what spoils them

no_value : {X : Type 0} (hexadecimal decimal small : Bool) (value other : X) → (decimal || hexadecimal) ≡ false → cond hexadecimal (Some value) (cond (decimal && small) (Some other) None) ≡ None
no_value true true small value other h = absurd (false≢true (sym h))
no_value true false small value other h = absurd (false≢true (sym h))
no_value false true small value other h = absurd (false≢true (sym h))
no_value false false small value other h = refl

-- what has no numeral's form has no value
numeral_value-none : (bytes : List ℕ) → has_form bytes ≡ false → numeral_value bytes ≡ None
numeral_value-none bytes h = no_value (is_hexadecimal bytes) (is_decimal bytes) _ _ _ h

not_decimal : (x y : Bool) → (x || y) ≡ false → x ≡ false
not_decimal true y h = h
not_decimal false y h = refl

form_only : {X : Type 0} (hexadecimal decimal small : Bool) (value other : X) → (decimal || hexadecimal) ≡ true → is_some (cond hexadecimal (Some value) (cond (decimal && small) (Some other) None)) ≡ false → decimal ≡ true
form_only true decimal small value other h none = absurd (false≢true (sym none))
form_only false true small value other h none = refl
form_only false false small value other h none = h

-- what has a numeral's form and no value is decimal
decimal_from_form : (bytes : List ℕ) → has_form bytes ≡ true → is_some (numeral_value bytes) ≡ false → is_decimal bytes ≡ true
decimal_from_form bytes form none = form_only (is_hexadecimal bytes) (is_decimal bytes) _ _ _ form none

-- the last byte of a prefix, and the prefix before it
spoiled-take : (n : ℕ) (bytes : List ℕ) → n + 1 ≤ length bytes → is_spoiled (take (n + 1) bytes) ≡ (has_form (take n bytes) && spoils_numeral (slice_index bytes n))
spoiled-take n bytes within =
    let long : length (take (n + 1) bytes) ≡ n + 1 = length-take-le (n + 1) bytes within in
    let less : length (take (n + 1) bytes) - 1 ≡ n = omega arith in
    let front : take n (take (n + 1) bytes) ≡ take n bytes = take-take n (n + 1) bytes (omega arith) in
    let last : slice_index (take (n + 1) bytes) n ≡ slice_index bytes n = slice_index-take (n + 1) bytes n (omega arith) in
    (λ i. (let numeral = take (less i) (take (n + 1) bytes) in has_form numeral && spoils_numeral (slice_index (take (n + 1) bytes) (less i))))
    ∙ (λ i. has_form (front i) && spoils_numeral (last i))

piece_none : (value : Option ℤ) (decimal spoiled : Bool) → value ≡ None → decimal ≡ false → spoiled ≡ false → cond (is_some value) (Some (Token Numeral)) (piece_if (decimal || spoiled) (Wrong why.Number)) ≡ None
piece_none value decimal spoiled v d s = rw (v, d, s)

piece_spoiled : (value : Option ℤ) (decimal spoiled : Bool) → value ≡ None → spoiled ≡ true → cond (is_some value) (Some (Token Numeral)) (piece_if (decimal || spoiled) (Wrong why.Number)) ≡ Some (Wrong why.Number)
piece_spoiled value true spoiled v s = rw v refl
piece_spoiled value false spoiled v s = rw (v, s) refl

piece_large : (some decimal spoiled : Bool) → some ≡ false → decimal ≡ true → cond some (Some (Token Numeral)) (piece_if (decimal || spoiled) (Wrong why.Number)) ≡ Some (Wrong why.Number)
piece_large some decimal spoiled v s = rw (v, s) refl

-- What has no form of a numeral is no piece, unless its last byte spoils one.
none_unless_spoiled : (bytes : List ℕ) → has_form bytes ≡ false → is_spoiled bytes ≡ false → numeral_piece bytes ≡ None
none_unless_spoiled bytes form spoiled =
    piece_none (numeral_value bytes) (is_decimal bytes) (is_spoiled bytes) (numeral_value-none bytes form) (not_decimal _ _ form) spoiled

no_form_before : (form spoils : Bool) → form ≡ false → (form && spoils) ≡ false
no_form_before form spoils h = rw h refl

not_spoiling : (form spoils : Bool) → spoils ≡ false → (form && spoils) ≡ false
not_spoiling true spoils h = h
not_spoiling false spoils h = refl

module _ {bytes : List ℕ} {len : ℕ} (ends : EndsForm bytes len) where
  -- a longer prefix is spoiled only where its last byte stands after the form
  spoiled_past : (n : ℕ) → len < n → n ≤ length bytes → (n ≡ len + 1 → spoils_numeral (slice_index bytes len) ≡ false) → is_spoiled (take n bytes) ≡ false
  spoiled_past n more whole unspoiled =
      let back : n - 1 + 1 ≡ n = omega arith in
      let at : is_spoiled (take (n - 1 + 1) bytes) ≡ (has_form (take (n - 1) bytes) && spoils_numeral (slice_index bytes (n - 1))) = spoiled-take (n - 1) bytes (omega arith) in
      subst (λ m. is_spoiled (take m bytes) ≡ false) back
      (at ∙ ⊎_elim
      (λ same. not_spoiling (has_form (take (n - 1) bytes)) (spoils_numeral (slice_index bytes (n - 1))) (ap (λ m. spoils_numeral (slice_index bytes m)) same ∙ unspoiled (omega (arith, same))))
      (λ other. no_form_before (has_form (take (n - 1) bytes)) (spoils_numeral (slice_index bytes (n - 1))) (ends.past (n - 1) (omega (arith, other)) (omega arith)))
      (cases_eq (n - 1) len))

  pub numeral_spoiled : spoils_numeral (slice_index bytes len) ≡ true → IsFrontOf numeral_piece bytes (len + 1) (Wrong why.Number)
  numeral_spoiled spoils =
      let more : len < length bytes = ⊎_elim (λ lt. lt) (λ past. absurd (false≢true (ap spoils_numeral (sym (get_or_past bytes len 0 past)) ∙ spoils))) (cases_lt len (length bytes)) in
      record {
        some = omega arith;
        within = omega arith;
        spells = piece_spoiled (numeral_value (take (len + 1) bytes)) (is_decimal (take (len + 1) bytes)) (is_spoiled (take (len + 1) bytes)) (numeral_value-none (take (len + 1) bytes) (ends.past (len + 1) (omega arith) (omega arith))) (spoiled-take len bytes (omega arith) ∙ both_true _ _ ends.form spoils);
        longest = λ n past whole. none_unless_spoiled (take n bytes) (ends.past n (omega arith) whole) (spoiled_past n (omega arith) whole (λ same. absurd (omega arith)));
      }

  module _ (unspoiled : spoils_numeral (slice_index bytes len) ≡ false) where
    none_longer : (n : ℕ) → len < n → n ≤ length bytes → numeral_piece (take n bytes) ≡ None
    none_longer n past whole = none_unless_spoiled (take n bytes) (ends.past n past whole) (spoiled_past n past whole (λ _. unspoiled))

    pub numeral_right : is_some (numeral_value (take len bytes)) ≡ true → IsFrontOf numeral_piece bytes len (Token Numeral)
    numeral_right some = record {
      some = ends.some;
      within = ends.within;
      spells = ap (λ t. cond t (Some (Token Numeral)) (piece_if (is_decimal (take len bytes) || is_spoiled (take len bytes)) (Wrong why.Number))) some;
      longest = none_longer;
    }

    pub numeral_large : is_some (numeral_value (take len bytes)) ≡ false → IsFrontOf numeral_piece bytes len (Wrong why.Number)
    numeral_large none = record {
      some = ends.some;
      within = ends.within;
      spells = piece_large (is_some (numeral_value (take len bytes))) (is_decimal (take len bytes)) (is_spoiled (take len bytes)) none (decimal_from_form (take len bytes) ends.form none);
      longest = none_longer;
    }

-- ---- values of forms

some_of : {X : Type 0} (b : Bool) (x : X) (o : Option X) → b ≡ true → is_some (cond b (Some x) o) ≡ true
some_of b x o h = rw h refl

pub hexadecimal_value : (bytes : List ℕ) (len : ℕ) → begins_hexadecimal bytes ≡ true → len ≡ 2 + prefix_len is_ascii_hexdigit (drop 2 bytes) → true ≡ is_some (numeral_value (take len bytes))
hexadecimal_value [] len begins len_is = absurd (false≢true begins)
hexadecimal_value (o ∷ []) len begins len_is = absurd (false≢true (sym (and-false _) ∙ begins))
hexadecimal_value (o ∷ x ∷ []) len begins len_is = absurd (false≢true (sym (and-false _) ∙ begins))
hexadecimal_value (o ∷ x ∷ d ∷ ds) len begins len_is =
    let parts = and_parts (nat_eq o 48 && nat_eq x 120) (is_ascii_hexdigit d) begins in
    let digits : len ≡ 3 + prefix_len is_ascii_hexdigit ds = len_is ∙ ap (λ t. 2 + cond t (1 + prefix_len is_ascii_hexdigit ds) 0) parts.1 ∙ omega arith in
    sym (some_of _ _ _ (hexadecimal_form o x d ds len begins digits))

value_of_digits : (hexadecimal decimal small : Bool) (x : ℤ) (n : ℕ) (y : ℤ) → hexadecimal ≡ false → decimal ≡ true → is_some (cond small (Some n) None) ≡ is_some (cond hexadecimal (Some x) (cond (decimal && small) (Some y) None))
value_of_digits true decimal small x n y h d = absurd (false≢true (sym h))
value_of_digits false false small x n y h d = absurd (false≢true d)
value_of_digits false true true x n y h d = refl
value_of_digits false true false x n y h d = refl

pub decimal_value_some : (bytes : List ℕ) (len : ℕ) → is_ascii_digit (slice_index bytes 0) ≡ true → begins_hexadecimal bytes ≡ false → len ≡ prefix_len is_ascii_digit bytes → is_some (cond (nat_lt (digits_value 10 (take len bytes)) (2 ^ 63)) (Some (digits_value 10 (take len bytes))) None) ≡ is_some (numeral_value (take len bytes))
decimal_value_some bytes len digit plain len_is =
    let some : 0 < len = omega (arith, len_is, some_digits bytes digit) in
    let within : len ≤ length bytes = omega (arith, len_is, prefix_len-le-length is_ascii_digit bytes) in
    value_of_digits (is_hexadecimal (take len bytes)) (is_decimal (take len bytes)) _ _ _ _
    (false_from_ne_true _ (λ hexadecimal. false≢true (sym plain ∙ begins-take len bytes (hexadecimal_begins (take len bytes) hexadecimal))))
    (decimal-take len bytes some within ∙ list_all-take is_ascii_digit len bytes (omega (arith, len_is)))
