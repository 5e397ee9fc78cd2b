use Rattle.std.proofs.Common.{cond, Some, None, sym, ap, arith}
use Rattle.std.specs.Str.Parse.{digits_value}
use Rattle.ntx_syntax.proofs.NumeralLemmas.{too_large_before, too_large_after}
use Rattle.ntx_syntax.proofs.numeral.decimal_value.Goals as goal

pub returns-then-value : goal.returns-then-value
returns-then-value c = sym (ap (λ t. cond t (Some (digits_value 10 c.args.digits.now)) None) (too_large_before c.loop-digit.value c.loop-digit.digit-index c.args.digits.now c.loop-digit.invariant.0 (omega arith) (omega arith)))

pub returns-then-value-gt-MAX : goal.returns-then-value-gt-MAX
returns-then-value-gt-MAX c = sym (ap (λ t. cond t (Some (digits_value 10 c.args.digits.now)) None) (too_large_after c.loop-digit.value c.loop-digit.digit-index c.args.digits.now c.requires c.loop-digit.invariant.0 (omega arith) (omega arith)))
