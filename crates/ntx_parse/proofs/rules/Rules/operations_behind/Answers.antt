use Rattle.std.proofs.Common.{arith, refl, ◌∙◌, sym}
use Rattle.ntx_parse.specs.inner.Reading.{readers}
use Rattle.ntx_parse.proofs.reads.Answers.{ok, err_by, no_memory_by, done, later, with_equal, shorter_of}
use Rattle.ntx_parse.proofs.rules.Rules.operations_behind.Goals as goal

pub loop-operator-init : goal.loop-operator-init
loop-operator-init g c = with_equal (λ before n. (readers n).operations c.args.place c.args.precedence before c.args.parser.now.words) c.new-operations.ensures

pub returns-in_err-take_word : goal.returns-in_err-take_word
returns-in_err-take_word g c =
    c.loop-operator.invariant _ _ (later (λ n. refl) (rw (sym c.operator_at.ensures ∙ c.in-Some.is) (err_by _ _ c.from_residual.ensures.1 c.in_err-take_word.ensures.reads)))

pub returns-in_err-operand : goal.returns-in_err-operand
returns-in_err-operand g c =
    c.loop-operator.invariant _ _ (later (λ n. refl) (rw (sym c.operator_at.ensures ∙ c.in-Some.is) (ok _ c.in_ok-take_word.ensures.reads
    (rw (sym c.within.ensures.is, sym c.tighter.ensures) (err_by _ _ c.from_residual-in_err-operand.ensures.1 c.in_err-operand.ensures)))))

pub loop-operator-preserved : goal.loop-operator-preserved
loop-operator-preserved g c = λ r new h.
    c.loop-operator.invariant r new (later (λ n. refl) (rw (sym c.operator_at.ensures ∙ c.in-Some.is) (ok _ c.in_ok-take_word.ensures.reads
    (rw (sym c.within.ensures.is, sym c.tighter.ensures) (ok _ c.in_ok-operand.ensures
    (with_equal (λ before n. (readers n).operations c.args.place c.args.precedence before c.exp.new.parser.words) c.in_ok-push.ensures.ok r new h))))))

pub loop-operator-smaller : goal.loop-operator-smaller
loop-operator-smaller g c = omega (arith, c.in_ok-take_word.ensures.shorter, shorter_of c.in_ok-operand.ensures)

pub returns-in_err-push : goal.returns-in_err-push
returns-in_err-push g c = no_memory_by _ c.from_residual-in_err-push.ensures.1

pub returns : goal.returns
returns g c = c.loop-operator.invariant _ _ (later (λ n. refl) (rw (sym c.operator_at.ensures ∙ c.in_default.is) done))
