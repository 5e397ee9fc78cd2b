-- A number on the command line: decimal digits without a sign, and leading zeros count as digits. The form is this project's own.
use Rattle.std.specs.Prelude.{ℕ, nat_le, ◌&&◌, Bool, List, length, Option, None, Some, if◌then◌else◌}
use Rattle.std.specs.List.{list_all}
use Rattle.std.specs.Char.{is_ascii_digit}
use Rattle.std.specs.Str.Parse.{digits_value}

-- 1 to `most` decimal digits
abbrev pub is_numeral : ℕ → List ℕ → Bool
is_numeral most text = nat_le 1 (length text) && (nat_le (length text) most && list_all is_ascii_digit text)

-- The number that the text writes with at most so many digits, if it is 1 to `greatest`.
abbrev pub number_in : ℕ → ℕ → List ℕ → Option ℕ
number_in most greatest text =
    let number = digits_value 10 text in
    if is_numeral most text && (nat_le 1 number && nat_le number greatest) then Some number else None
