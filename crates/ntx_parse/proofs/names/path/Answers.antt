use Rattle.std.proofs.Common.{refl, ◌∙◌, sym}
use Rattle.ntx_parse.specs.inner.Reading.{readers}
use Rattle.ntx_parse.proofs.reads.Answers.{ok, err_by, no_memory_by, done, later, when, unless, with_equal}
use Rattle.ntx_parse.proofs.names.path.Goals as goal

pub loop-alloc-init : goal.loop-alloc-init
loop-alloc-init c = with_equal (λ before n. (readers n).path c.args.place before c.args.parser.now.words) c.new-names.ensures

pub returns-in_err-take_word : goal.returns-in_err-take_word
returns-in_err-take_word c =
    c.loop-alloc.invariant _ _ (later (λ n. refl) (when _ (sym c.begins.ensures ∙ c.loop-alloc-test.true)
    (err_by _ _ c.from_residual.ensures.1 c.in_err-take_word.ensures.reads)))

pub returns-in_err-name : goal.returns-in_err-name
returns-in_err-name c =
    c.loop-alloc.invariant _ _ (later (λ n. refl) (when _ (sym c.begins.ensures ∙ c.loop-alloc-test.true)
    (ok _ c.in_ok-take_word.ensures.reads (err_by _ _ c.from_residual-in_err-name.ensures.1 c.in_err-name.ensures.reads))))

pub loop-alloc-preserved : goal.loop-alloc-preserved
loop-alloc-preserved c = λ r new h.
    c.loop-alloc.invariant r new (later (λ n. refl) (when _ (sym c.begins.ensures ∙ c.loop-alloc-test.true)
    (ok _ c.in_ok-take_word.ensures.reads (ok _ c.in_ok-name.ensures.reads
    (with_equal (λ before n. (readers n).path c.args.place before c.name.new.self.words) c.in_ok-push.ensures.ok r new h)))))

pub returns-in_err-push : goal.returns-in_err-push
returns-in_err-push c = no_memory_by _ c.from_residual-in_err-push.ensures.1

pub returns : goal.returns
returns c = c.loop-alloc.invariant _ _ (later (λ n. refl) (unless _ (sym c.begins.ensures ∙ c.loop-alloc-test.false) done))
