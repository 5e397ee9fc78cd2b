use Rattle.std.proofs.Common.{◌≡◌, ◌+◌, Some, None, sym, ap, ◌∙◌, arith}
use Rattle.ntx_pairs.specs.Pairs.{deciding, command_in}
use Rattle.ntx_pairs.proofs.PairLemmas.{deciding_end, deciding_found, deciding_on, deciding_stop}
use Rattle.ntx_pairs.proofs.program.pair_from.Goals as goal

pub returns-then-applies-clause-value : goal.returns-then-applies-clause-value
returns-then-applies-clause-value c =
    let decided : deciding c.args.right c.args.start c.args.font.now.steps ≡ Some c.in-Some.step = sym c.loop-step.invariant ∙ deciding_found c.args.right c.loop-step.place c.args.font.now.steps c.in-Some.step (sym c.in-Some.ensures.value) (sym c.if-applies.ensures.value) in
    c.command.ensures.value ∙ sym (ap (command_in c.args.font.now) decided)

pub returns-then-step-ge128-clause-value : goal.returns-then-step-ge128-clause-value
returns-then-step-ge128-clause-value c =
    let decided : deciding c.args.right c.args.start c.args.font.now.steps ≡ None = sym c.loop-step.invariant ∙ deciding_stop c.args.right c.loop-step.place c.args.font.now.steps c.in-Some.step (sym c.in-Some.ensures.value) (sym c.if-applies.ensures.value) c.if-step-ge128.true in
    sym (ap (command_in c.args.font.now) decided)

pub loop-step-preserved : goal.loop-step-preserved
loop-step-preserved c =
    let next : c.loop-step.place + (c.from.result + 1) ≡ c.loop-step.place + c.in-Some.step.skip + 1 = omega arith in
    ap (λ place. deciding c.args.right place c.args.font.now.steps) next
    ∙ sym (deciding_on c.args.right c.loop-step.place c.args.font.now.steps c.in-Some.step (sym c.in-Some.ensures.value) (sym c.if-applies.ensures.value) c.if-step-ge128.false) ∙ c.loop-step.invariant

pub returns-clause-value : goal.returns-clause-value
returns-clause-value c =
    let decided : deciding c.args.right c.args.start c.args.font.now.steps ≡ None = sym c.loop-step.invariant ∙ deciding_end c.args.right c.loop-step.place c.args.font.now.steps (sym c.in_default.ensures.value) in
    sym (ap (command_in c.args.font.now) decided)
