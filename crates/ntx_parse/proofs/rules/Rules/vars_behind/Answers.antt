use Rattle.std.proofs.Common.{refl, ap, ◌∙◌, sym, [], ◌∷◌, ◌++◌}
use Rattle.ntx_parse.specs.inner.Reading.{readers, as_var}
use Rattle.ntx_parse.proofs.reads.Answers.{ok, err_by, no_memory_by, done, later, when, unless, with_equal}
use Rattle.ntx_parse.proofs.rules.Rules.vars_behind.Goals as goal

pub returns-in_err-push : goal.returns-in_err-push
returns-in_err-push g c = no_memory_by _ c.from_residual.ensures.1

pub loop-place-init : goal.loop-place-init
loop-place-init g c =
    with_equal (λ before n. (readers n).vars c.args.place before c.args.parser.now.words) (c.in_ok-push.ensures.ok ∙ ap (λ before. before ++ c.args.first ∷ []) c.new-vars.ensures)

pub returns-in_err-take_word : goal.returns-in_err-take_word
returns-in_err-take_word g c =
    c.loop-place.invariant _ _ (later (λ n. refl) (when _ (sym c.begins.ensures ∙ c.loop-place-test.true)
    (err_by _ _ c.from_residual-in_err-take_word.ensures.1 c.in_err-take_word.ensures.reads)))

pub returns-in_err-found : goal.returns-in_err-found
returns-in_err-found g c =
    c.loop-place.invariant _ _ (later (λ n. refl) (when _ (sym c.begins.ensures ∙ c.loop-place-test.true)
    (ok _ c.in_ok-take_word.ensures.reads (err_by _ _ c.from_residual-in_err-found.ensures.1 c.in_err-found.ensures.reads))))

pub returns-in_err-var : goal.returns-in_err-var
returns-in_err-var g c = no_memory_by _ c.from_residual-in_err-var.ensures.1

pub returns-in_err-as_var : goal.returns-in_err-as_var
returns-in_err-as_var g c =
    c.loop-place.invariant _ _ (later (λ n. refl) (when _ (sym c.begins.ensures ∙ c.loop-place-test.true)
    (ok _ c.in_ok-take_word.ensures.reads (ok _ c.in_ok-found.ensures.reads (err_by _ _ c.from_residual-in_err-as_var.ensures.1 (with_equal (λ v n. as_var v c.prefix.new.parser.words) c.in_ok-var.ensures _ _ c.in_err-as_var.ensures))))))

pub loop-place-preserved : goal.loop-place-preserved
loop-place-preserved g c = λ r new h.
    c.loop-place.invariant r new (later (λ n. refl) (when _ (sym c.begins.ensures ∙ c.loop-place-test.true)
    (ok _ c.in_ok-take_word.ensures.reads (ok _ c.in_ok-found.ensures.reads (ok _ (with_equal (λ v n. as_var v c.prefix.new.parser.words) c.in_ok-var.ensures _ _ c.in_ok-as_var.ensures) (with_equal (λ before n. (readers n).vars c.args.place before c.prefix.new.parser.words) c.in_ok-push-2.ensures.ok r new h))))))

pub returns-in_err-push-2 : goal.returns-in_err-push-2
returns-in_err-push-2 g c = no_memory_by _ c.from_residual-in_err-push-2.ensures.1

pub returns : goal.returns
returns g c = c.loop-place.invariant _ _ (later (λ n. refl) (unless _ (sym c.begins.ensures ∙ c.loop-place-test.false) done))
