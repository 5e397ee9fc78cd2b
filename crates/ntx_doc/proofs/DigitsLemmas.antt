-- The value of decimal digits, digit by digit.
use Rattle.std.proofs.Common.{◌≡◌, ℕ, ◌+◌, ◌-◌, ◌*◌, ◌<◌, ◌≤◌, ◌^◌, true, List, length, take, get_or, arith, refl, add-one}
use Rattle.std.specs.Char.{is_ascii_digit, digit_value}
use Rattle.std.specs.List.{list_all}
use Rattle.std.specs.Str.Parse.{digits_value}
use Rattle.std.proofs.Math.Nat.{pow-suc, pow-le-pow_right}
use Rattle.std.proofs.lemmas.Bool.Decides.{nat_tests}
use Rattle.std.proofs.lemmas.List.Sums.{AllPass-from_list_all}
use Rattle.std.proofs.lemmas.Int.Digits.{digits_value_more}

pub record IsDigit (byte : ℕ) : Type 0 where
  pub low : 48 ≤ byte
  pub high : byte ≤ 57
  pub value : digit_value byte ≡ byte - 48

is_digit-passes : (byte : ℕ) → is_ascii_digit byte ≡ true → IsDigit byte
is_digit-passes byte passes =
    let low : 48 ≤ byte = grind (arith, nat_tests) in
    let high : byte ≤ 57 = grind (arith, nat_tests) in
    record { low = low; high = high; value = grind (arith, nat_tests) }

pub digit_at : (digits : List ℕ) (i : ℕ) → list_all is_ascii_digit digits ≡ true → i < length digits → IsDigit (get_or digits i 0)
digit_at digits i all within = is_digit-passes _ (AllPass-from_list_all is_ascii_digit digits all i 0 within)

-- what a loop over the digits has read
pub record HasRead (digits : List ℕ) (i value : ℕ) : Type 0 where
  pub is : value ≡ digits_value 10 (take i digits)
  pub bound : value < 10 ^ i

pub power_small : (i : ℕ) → i < 10 → 10 ^ i ≤ 10 ^ 9
power_small i small = pow-le-pow_right {n = 10} (omega arith) {i = i} {j = 9} (omega arith)

pub reads_more : (digits : List ℕ) (i value : ℕ) → list_all is_ascii_digit digits ≡ true → i < length digits → HasRead digits i value → HasRead digits (i + 1) (value * 10 + (get_or digits i 0 - 48))
reads_more digits i value all within read =
    let digit : IsDigit (get_or digits i 0) = digit_at digits i all within in
    record {
      is = rw (digits_value_more 10 digits i within, digit.value, ← read.is) refl;
      bound = rw (add-one, pow-suc) (omega arith);
    }
