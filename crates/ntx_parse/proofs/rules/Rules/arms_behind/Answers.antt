use Rattle.std.proofs.Common.{refl, ap, ◌∙◌, sym, [], ◌∷◌, ◌++◌}
use Rattle.ntx_parse.specs.inner.Reading.{readers}
use Rattle.ntx_parse.proofs.reads.Answers.{ok, err_by, no_memory_by, done, later, when, unless, with_equal}
use Rattle.ntx_parse.proofs.rules.Rules.arms_behind.Goals as goal

pub returns-in_err-push : goal.returns-in_err-push
returns-in_err-push g c = no_memory_by _ c.from_residual.ensures.1

pub loop-place-init : goal.loop-place-init
loop-place-init g c =
    with_equal (λ before n. (readers n).arms c.args.place before c.args.parser.now.words) (c.in_ok-push.ensures.ok ∙ ap (λ before. before ++ c.args.first ∷ []) c.new-arms.ensures)

pub returns-in_err-arm : goal.returns-in_err-arm
returns-in_err-arm g c =
    c.loop-place.invariant _ _ (later (λ n. refl) (when _ (sym c.begins.ensures ∙ c.loop-place-test.true)
    (err_by _ _ c.from_residual-in_err-arm.ensures.1 c.in_err-arm.ensures.reads)))

pub loop-place-preserved : goal.loop-place-preserved
loop-place-preserved g c = λ r new h.
    c.loop-place.invariant r new (later (λ n. refl) (when _ (sym c.begins.ensures ∙ c.loop-place-test.true)
    (ok _ c.in_ok-arm.ensures.reads (with_equal (λ before n. (readers n).arms c.args.place before c.arm.new.parser.words) c.in_ok-push-2.ensures.ok r new h))))

pub returns-in_err-push-2 : goal.returns-in_err-push-2
returns-in_err-push-2 g c = no_memory_by _ c.from_residual-in_err-push-2.ensures.1

pub returns : goal.returns
returns g c = c.loop-place.invariant _ _ (later (λ n. refl) (unless _ (sym c.begins.ensures ∙ c.loop-place-test.false) done))
