use Rattle.std.proofs.Common.{◌≡◌, suc, ◌-◌, false, ◌++◌, reverse, sym, ◌∙◌, arith}
use Rattle.std.specs.Prelude.{nat_eq}
use Rattle.std.proofs.lemmas.Bool.Decides.{nat_tests}
use Rattle.ntx_breaks.specs.Chosen.{chain_back}
use Rattle.ntx_breaks.proofs.ChainLemmas.{chain_step}
use Rattle.ntx_breaks.proofs.answer.chain_of.Goals as goal

pub loop-steps-preserved : goal.loop-steps-preserved
loop-steps-preserved c =
    let left : c.loop-steps.steps ≡ suc (c.loop-steps.steps - 1) = omega arith in
    let on : nat_eq c.loop-steps.state.place 0 ≡ false = grind (arith, nat_tests, c.if-state-ne0.true) in
    (λ j. chain_back c.args.states.now (c.loop-steps.steps - 1) (c.state_at-state.ensures j) ++ reverse (c.in_ok-push.ensures.items j))
    ∙ sym (chain_step c.args.states.now c.loop-steps.steps (c.loop-steps.steps - 1) c.loop-steps.state c.loop-steps.places.items left on)
    ∙ c.loop-steps.invariant
