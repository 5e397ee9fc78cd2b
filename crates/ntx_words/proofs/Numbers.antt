-- A number that std reads from digits.
use Rattle.std.proofs.Common.{◌≡◌, ◌∙◌, ℕ, ◌<◌, ◌≤◌, ◌^◌, ◌==◌, ◌&&◌, Bool, true, false, List, [], ◌∷◌, None, Some, length, refl, sym, ap, subst, arith, inl, inr}
use Rattle.std.specs.Prelude.{nat_le, if◌then◌else◌}
use Rattle.std.specs.List.{list_all}
use Rattle.std.specs.Char.{is_ascii_digit, digit_value}
use Rattle.std.specs.Str.Parse.{AllDigits, IsNumeral, digits_value, without_leading_plus}
use Rattle.std.proofs.lemmas.Bool.Decides.{nat_tests}
use Rattle.std.proofs.lemmas.Bool.{cases_lt}
use Rattle.ntx_words.specs.Number.{is_numeral, number_in}

both_left : (a b : Bool) → (a && b) ≡ true → a ≡ true
both_left true b e = refl
both_left false b e = e

both_right : (a b : Bool) → (a && b) ≡ true → b ≡ true
both_right true b e = e
both_right false b e = cc

-- a digit is no plus
not_plus : (x : ℕ) → is_ascii_digit x ≡ true → (x == 43) ≡ false
not_plus x digit = grind (arith, nat_tests)

digit_small : (x : ℕ) → is_ascii_digit x ≡ true → digit_value x < 10
digit_small x digit = grind (arith, nat_tests)

digits_alone : (text : List ℕ) → list_all is_ascii_digit text ≡ true → without_leading_plus text ≡ text
digits_alone [] all = refl
digits_alone (x ∷ xs) all = rw (not_plus x (both_left (is_ascii_digit x) (list_all is_ascii_digit xs) all)) refl

all_digits : (text : List ℕ) → list_all is_ascii_digit text ≡ true → AllDigits 10 text
all_digits [] all = tt
all_digits (x ∷ xs) all = (
  digit_small x (both_left (is_ascii_digit x) (list_all is_ascii_digit xs) all),
  all_digits xs (both_right (is_ascii_digit x) (list_all is_ascii_digit xs) all),
)

all_of_numeral : (most : ℕ) (text : List ℕ) → is_numeral most text ≡ true → list_all is_ascii_digit text ≡ true
all_of_numeral most text e = both_right (nat_le (length text) most) _ (both_right (nat_le 1 (length text)) _ e)

some_of_numeral : (most : ℕ) (text : List ℕ) → is_numeral most text ≡ true → 0 < length text
some_of_numeral most text e =
    let one : nat_le 1 (length text) ≡ true = both_left (nat_le 1 (length text)) _ e in
    grind (arith, nat_tests)

told : (most greatest n : ℕ) (text : List ℕ) → is_numeral most text ≡ true → n ≡ digits_value 10 text
    → number_in most greatest text ≡ (if nat_le 1 n && nat_le n greatest then Some n else None)
told most greatest n text e is = rw (e, ← is) refl

same_value : (most n : ℕ) (text : List ℕ) → is_numeral most text ≡ true → n ≡ digits_value 10 (without_leading_plus text) → n ≡ digits_value 10 text
same_value most n text e is = is ∙ ap (digits_value 10) (digits_alone text (all_of_numeral most text e))

pub le_test : (a b : ℕ) → a ≤ b → nat_le a b ≡ true
le_test a b h = grind (arith, nat_tests)

pub gt_test : (a b : ℕ) → b < a → nat_le a b ≡ false
gt_test a b h = grind (arith, nat_tests)

pub in_range : (most greatest n : ℕ) (text : List ℕ) → is_numeral most text ≡ true → n ≡ digits_value 10 (without_leading_plus text)
    → 1 ≤ n → n ≤ greatest → Some n ≡ number_in most greatest text
in_range most greatest n text e is low high =
    sym (told most greatest n text e (same_value most n text e is) ∙ rw (le_test 1 n low, le_test n greatest high) refl)

pub below_range : (most greatest n : ℕ) (text : List ℕ) → is_numeral most text ≡ true → n ≡ digits_value 10 (without_leading_plus text)
    → n < 1 → None ≡ number_in most greatest text
below_range most greatest n text e is low =
    sym (told most greatest n text e (same_value most n text e is) ∙ rw (gt_test 1 n low) refl)

pub above_range : (most greatest n : ℕ) (text : List ℕ) → is_numeral most text ≡ true → n ≡ digits_value 10 (without_leading_plus text)
    → 1 ≤ n → greatest < n → None ≡ number_in most greatest text
above_range most greatest n text e is low high =
    sym (told most greatest n text e (same_value most n text e is) ∙ rw (le_test 1 n low, gt_test n greatest high) refl)

-- std refuses a numeral for its size alone
pub past_type : (most greatest : ℕ) (text : List ℕ) → is_numeral most text ≡ true → greatest < 2 ^ 64
    → ((IsNumeral 10 (without_leading_plus text) × (digits_value 10 (without_leading_plus text) < 2 ^ 64)) → ⊥) → None ≡ number_in most greatest text
past_type most greatest text e bound not = go (nat_le 1 (digits_value 10 text)) refl
  where
    alone : without_leading_plus text ≡ text
    alone = digits_alone text (all_of_numeral most text e)

    refused : digits_value 10 text < 2 ^ 64 → ⊥
    refused small = not (subst (λ t. IsNumeral 10 t × (digits_value 10 t < 2 ^ 64)) (sym alone)
        ((some_of_numeral most text e, all_digits text (all_of_numeral most text e)), small))

    high : greatest < digits_value 10 text
    high = elim (cases_lt (digits_value 10 text) (2 ^ 64)) [ inl small ↦ absurd (refused small) | inr large ↦ omega arith ]

    go : (b : Bool) → nat_le 1 (digits_value 10 text) ≡ b → None ≡ number_in most greatest text
    go true low = sym (told most greatest (digits_value 10 text) text e refl ∙ rw (low, gt_test (digits_value 10 text) greatest high) refl)
    go false low = sym (told most greatest (digits_value 10 text) text e refl ∙ rw low refl)
