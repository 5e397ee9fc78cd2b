use Rattle.std.proofs.Common.{arith, refl, ◌∙◌, sym}
use Rattle.ntx_parse.specs.inner.Reading.{readers}
use Rattle.ntx_parse.proofs.reads.Answers.{ok, err_by, no_memory_by, done, later, when, unless, with_equal, shorter_of}
use Rattle.ntx_parse.proofs.rules.Rules.fields.Goals as goal

pub loop-place-init : goal.loop-place-init
loop-place-init g c = with_equal (λ before n. (readers n).fields c.args.place before c.args.parser.now.words) c.new-fields.ensures

pub returns-in_err-field : goal.returns-in_err-field
returns-in_err-field g c = c.loop-place.invariant _ _ (later (λ n. refl) (unless _ (sym c.begins.ensures ∙ c.loop-place-test.true) (err_by _ _ c.from_residual.ensures.1 c.in_err-field.ensures)))

pub returns-in_err-push : goal.returns-in_err-push
returns-in_err-push g c = no_memory_by _ c.from_residual-in_err-push.ensures.1

pub returns-then-not-begins_separator : goal.returns-then-not-begins_separator
returns-then-not-begins_separator g c = c.loop-place.invariant _ _ (later (λ n. refl) (unless _ (sym c.begins.ensures ∙ c.loop-place-test.true) (ok _ c.in_ok-field.ensures (unless _ (sym c.begins_separator.ensures ∙ c.if-not-begins_separator.true) (rw c.in_ok-push.ensures.ok done)))))

pub loop-place-smaller : goal.loop-place-smaller
loop-place-smaller g c = omega (arith, c.in_ok-take_word.ensures.shorter, shorter_of c.in_ok-field.ensures)

pub returns-in_err-take_word : goal.returns-in_err-take_word
returns-in_err-take_word g c = c.loop-place.invariant _ _ (later (λ n. refl) (unless _ (sym c.begins.ensures ∙ c.loop-place-test.true) (ok _ c.in_ok-field.ensures (when _ (sym c.begins_separator.ensures ∙ c.if-not-begins_separator.false) (err_by _ _ c.from_residual-in_err-take_word.ensures.1 c.in_err-take_word.ensures.reads)))))

pub loop-place-preserved : goal.loop-place-preserved
loop-place-preserved g c = λ r new h. c.loop-place.invariant r new (later (λ n. refl) (unless _ (sym c.begins.ensures ∙ c.loop-place-test.true) (ok _ c.in_ok-field.ensures (when _ (sym c.begins_separator.ensures ∙ c.if-not-begins_separator.false) (ok _ c.in_ok-take_word.ensures.reads (with_equal (λ before n. (readers n).fields c.args.place before c.take_word.new.self.words) c.in_ok-push.ensures.ok r new h))))))

pub returns : goal.returns
returns g c = c.loop-place.invariant _ _ (later (λ n. refl) (when _ (sym c.begins.ensures ∙ c.loop-place-test.false) done))
