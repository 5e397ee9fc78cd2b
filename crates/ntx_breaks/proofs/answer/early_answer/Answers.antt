use Rattle.std.proofs.Common.{◌≡◌, pos, false, ap, sym, ◌∙◌, subst, arith}
use Rattle.std.specs.Prelude.{int_lt, ◌≤ℤ◌}
use Rattle.std.specs.Option.{option_map}
use Rattle.std.proofs.lemmas.Int.{ints}
use Rattle.ntx_num.specs.Answer.{Gives, result_map}
use Rattle.ntx_breaks.specs.Chosen.{breaks_seen, answer_of}
use Rattle.ntx_breaks.proofs.PassLemmas.{not_below, early_is}
use Rattle.ntx_breaks.proofs.answer.early_answer.Goals as goal

pub returns : goal.returns
returns c =
    let low : pos 0 ≤ℤ c.get.result = omega (arith, ints) in
    let e : int_lt c.args.params.now.pretolerance (pos 0) ≡ false = subst (λ z. int_lt z (pos 0) ≡ false) c.get.ensures.value (not_below c.get.result low) in
    subst (Gives (result_map (option_map breaks_seen) c.answer_of.result))
    (ap (answer_of c.args.params.now c.args.items.now) c.first.ensures ∙ sym (early_is c.args.params.now c.args.items.now e)) c.answer_of.ensures
