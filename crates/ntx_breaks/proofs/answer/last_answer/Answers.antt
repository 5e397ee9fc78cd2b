use Rattle.std.proofs.Common.{◌≡◌, pos, false, ap, sym, ◌∙◌, subst, arith}
use Rattle.std.specs.Prelude.{int_le, ◌<ℤ◌}
use Rattle.std.specs.Option.{option_map}
use Rattle.std.proofs.lemmas.Int.{ints}
use Rattle.ntx_num.specs.Answer.{Gives, result_map}
use Rattle.ntx_breaks.specs.Chosen.{breaks_seen, answer_of}
use Rattle.ntx_breaks.proofs.PassLemmas.{above, last_is}
use Rattle.ntx_breaks.proofs.answer.last_answer.Goals as goal

pub returns : goal.returns
returns c =
    let high : pos 0 <ℤ c.get.result = omega (arith, ints) in
    let e : int_le c.args.params.now.emergencystretch (pos 0) ≡ false = subst (λ z. int_le z (pos 0) ≡ false) c.get.ensures.value (above c.get.result high) in
    subst (Gives (result_map (option_map breaks_seen) c.answer_of.result))
    (ap (answer_of c.args.params.now c.args.items.now) c.third.ensures ∙ sym (last_is c.args.params.now c.args.items.now e)) c.answer_of.ensures
