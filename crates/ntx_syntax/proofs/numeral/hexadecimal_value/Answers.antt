use Rattle.std.proofs.Common.{◌≡◌, ◌%◌, ◌*◌, ◌+◌, ◌^◌, drop, subst, sym, arith}
use Rattle.std.specs.Str.Parse.{digits_value, digits_value_after}
use Rattle.ntx_syntax.proofs.ValueLemmas.{wrapped_digit}
use Rattle.ntx_syntax.proofs.numeral.hexadecimal_value.Goals as goal

pub loop-digit-preserved : goal.loop-digit-preserved
loop-digit-preserved c =
    let s = c.loop-digit in
    let digits = c.args.digits.now in (
      subst (λ d. digits_value_after 16 (s.value % 2 ^ 60 * 16 + d) (drop (s.digit-index + 1) digits) % 2 ^ 64 ≡ digits_value 16 digits % 2 ^ 64) (sym c.hex_value.ensures.value)
          (wrapped_digit s.value s.digit-index digits _ s.invariant.0 c.loop-digit-test.true),
      omega (arith, c.hex_value.ensures.small),
    )
