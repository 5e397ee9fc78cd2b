use Rattle.std.proofs.Common.{refl, ap, ◌∙◌, sym, [], ◌∷◌, ◌++◌}
use Rattle.ntx_parse.specs.inner.Reading.{readers}
use Rattle.ntx_parse.proofs.reads.Answers.{ok, err_by, no_memory_by, done, later, when, unless, with_equal}
use Rattle.ntx_parse.proofs.names.names_behind.Goals as goal

pub returns-in_err-push : goal.returns-in_err-push
returns-in_err-push c = no_memory_by _ c.from_residual.ensures.1

pub loop-alloc-init : goal.loop-alloc-init
loop-alloc-init c =
    with_equal (λ before n. (readers n).names c.args.place before c.args.parser.now.words) (c.in_ok-push.ensures.ok ∙ ap (λ before. before ++ c.args.first ∷ []) c.new-names.ensures)

pub returns-in_err-take_word : goal.returns-in_err-take_word
returns-in_err-take_word c =
    c.loop-alloc.invariant _ _ (later (λ n. refl) (when _ (sym c.begins.ensures ∙ c.loop-alloc-test.true)
    (err_by _ _ c.from_residual-in_err-take_word.ensures.1 c.in_err-take_word.ensures.reads)))

pub returns-in_err-local_name : goal.returns-in_err-local_name
returns-in_err-local_name c =
    c.loop-alloc.invariant _ _ (later (λ n. refl) (when _ (sym c.begins.ensures ∙ c.loop-alloc-test.true)
    (ok _ c.in_ok-take_word.ensures.reads (err_by _ _ c.from_residual-in_err-local_name.ensures.1 c.in_err-local_name.ensures.reads))))

pub loop-alloc-preserved : goal.loop-alloc-preserved
loop-alloc-preserved c = λ r new h.
    c.loop-alloc.invariant r new (later (λ n. refl) (when _ (sym c.begins.ensures ∙ c.loop-alloc-test.true)
    (ok _ c.in_ok-take_word.ensures.reads (ok _ c.in_ok-local_name.ensures.reads
    (with_equal (λ before n. (readers n).names c.args.place before c.local_name.new.self.words) c.in_ok-push-2.ensures.ok r new h)))))

pub returns-in_err-push-2 : goal.returns-in_err-push-2
returns-in_err-push-2 c = no_memory_by _ c.from_residual-in_err-push-2.ensures.1

pub returns : goal.returns
returns c = c.loop-alloc.invariant _ _ (later (λ n. refl) (unless _ (sym c.begins.ensures ∙ c.loop-alloc-test.false) done))
