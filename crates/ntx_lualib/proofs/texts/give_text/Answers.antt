use Rattle.std.proofs.Common.{ℕ, Result, Vec, Global, subst}
use Rattle.std.proofs.lemmas.Result.{err_from_is_err_and}
use Rattle.ntx_num.specs.Answer.{result_map}
use Rattle.ntx_num.specs.declared.answer.Fail.{Fail}
use Rattle.ntx_values.specs.declared.why.LuaWhy.{LuaWhy}
use Rattle.ntx_lualib.specs.inner.StoreCalls.{GivesBytes}
use Rattle.ntx_lualib.proofs.Calling.{given_fails}
use Rattle.ntx_lualib.proofs.texts.give_text.Goals as goal

pub returns-in_err-bytes-clause-calls : goal.returns-in_err-bytes-clause-calls
returns-in_err-bytes-clause-calls c answer h =
    let p = err_from_is_err_and c.from_residual.result c.from_residual.ensures.1 in
    rw (p.1, p.2)
    (given_fails c.in_err-bytes.field-0.0 answer c.args.store.now c.lawful.ensures
    (subst (λ (b : Result (Vec ℕ Global) (Fail LuaWhy)). GivesBytes (result_map (λ bytes. bytes.items) b) answer) c.in_err-bytes.was h))
