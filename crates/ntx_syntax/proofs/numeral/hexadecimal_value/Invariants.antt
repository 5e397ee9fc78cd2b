use Rattle.std.proofs.Common.{◌≡◌, ◌^◌, ◌%◌, ◌<◌, drop}
use Rattle.std.specs.Str.Parse.{digits_value, digits_value_after}
use Rattle.ntx_syntax.proofs.numeral.hexadecimal_value.Given as goal

abbrev pub invariant-loop-digit : goal.invariant-loop-digit
invariant-loop-digit l =
    (digits_value_after 16 l.value (drop l.digit-index l.digits) % 2 ^ 64 ≡ digits_value 16 l.digits % 2 ^ 64) × (l.value < 2 ^ 64)
