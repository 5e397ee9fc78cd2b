use Rattle.std.proofs.Common.{arith, rules}
use Rattle.std.proofs.lemmas.Result.{err_from_is_err_and}
use Rattle.ntx_values.specs.declared.value.Value.TheVariants.{Nil}
use Rattle.ntx_lualib.specs.Arguments.{integer_of}
use Rattle.ntx_lualib.proofs.Each.{each_fails, each_more}
use Rattle.ntx_lualib.proofs.numbers.integers.Goals as goal

pub returns-in_err-integer_of : goal.returns-in_err-integer_of
returns-in_err-integer_of c =
    let p = err_from_is_err_and c.from_residual.result c.from_residual.ensures.1 in
    rw (p.1, p.2) (each_fails integer_of c.args.args.now c.loop-value.value-index Nil c.loop-value.integers.items c.in_err-integer_of.field-0.0 (omega arith) c.loop-value.invariant (search rules))

pub loop-value-preserved : goal.loop-value-preserved
loop-value-preserved c =
    rw c.in_ok-push.ensures.items (each_more integer_of c.args.args.now c.loop-value.value-index Nil c.loop-value.integers.items _ (omega arith) c.loop-value.invariant (search rules))
