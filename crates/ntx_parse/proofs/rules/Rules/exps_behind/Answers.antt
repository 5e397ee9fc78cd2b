use Rattle.std.proofs.Common.{arith, refl, ap, ◌∙◌, sym, [], ◌∷◌, ◌++◌}
use Rattle.ntx_parse.specs.inner.Reading.{readers}
use Rattle.ntx_parse.proofs.reads.Answers.{ok, err_by, no_memory_by, done, later, when, unless, with_equal, shorter_of}
use Rattle.ntx_parse.proofs.rules.Rules.exps_behind.Goals as goal

pub returns-in_err-push : goal.returns-in_err-push
returns-in_err-push g c = no_memory_by _ c.from_residual.ensures.1

pub loop-place-init : goal.loop-place-init
loop-place-init g c =
    with_equal (λ before n. (readers n).exps c.args.place before c.args.parser.now.words) (c.in_ok-push.ensures.ok ∙ ap (λ before. before ++ c.args.first ∷ []) c.new-exps.ensures)

pub returns-in_err-take_word : goal.returns-in_err-take_word
returns-in_err-take_word g c =
    c.loop-place.invariant _ _ (later (λ n. refl) (when _ (sym c.begins.ensures ∙ c.loop-place-test.true)
    (err_by _ _ c.from_residual-in_err-take_word.ensures.1 c.in_err-take_word.ensures.reads)))

pub returns-in_err-exp : goal.returns-in_err-exp
returns-in_err-exp g c =
    c.loop-place.invariant _ _ (later (λ n. refl) (when _ (sym c.begins.ensures ∙ c.loop-place-test.true)
    (ok _ c.in_ok-take_word.ensures.reads (err_by _ _ c.from_residual-in_err-exp.ensures.1 c.in_err-exp.ensures))))

pub loop-place-preserved : goal.loop-place-preserved
loop-place-preserved g c = λ r new h.
    c.loop-place.invariant r new (later (λ n. refl) (when _ (sym c.begins.ensures ∙ c.loop-place-test.true)
    (ok _ c.in_ok-take_word.ensures.reads (ok _ c.in_ok-exp.ensures (with_equal (λ before n. (readers n).exps c.args.place before c.exp.new.parser.words) c.in_ok-push-2.ensures.ok r new h)))))

pub loop-place-smaller : goal.loop-place-smaller
loop-place-smaller g c = omega (arith, c.in_ok-take_word.ensures.shorter, shorter_of c.in_ok-exp.ensures)

pub returns-in_err-push-2 : goal.returns-in_err-push-2
returns-in_err-push-2 g c = no_memory_by _ c.from_residual-in_err-push-2.ensures.1

pub returns : goal.returns
returns g c = c.loop-place.invariant _ _ (later (λ n. refl) (unless _ (sym c.begins.ensures ∙ c.loop-place-test.false) done))
