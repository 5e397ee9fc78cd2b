use Rattle.std.proofs.Common.{refl, ◌∙◌, sym}
use Rattle.ntx_parse.specs.inner.Reading.{readers}
use Rattle.ntx_parse.proofs.reads.Answers.{ok, err_by, no_memory_by, done, later, same, with_equal}
use Rattle.ntx_parse.proofs.complete.Stats.{suffix_by, suffix_end}
use Rattle.ntx_parse.proofs.rules.Rules.suffixes_behind.Goals as goal

pub loop-place-init : goal.loop-place-init
loop-place-init g c = λ r new h. h

pub returns-in_err-tail : goal.returns-in_err-tail
returns-in_err-tail g c =
    c.loop-place.invariant _ _ (later (λ n. refl) (same (λ n. suffix_by (readers n) c.args.place c.loop-place.before c.loop-place.parser.words (sym c.begins_suffix.ensures ∙ c.loop-place-test.true))
    (err_by _ _ c.from_residual.ensures.1 c.in_err-tail.ensures.reads)))

pub returns-in_err-before : goal.returns-in_err-before
returns-in_err-before g c = no_memory_by _ c.from_residual-in_err-before.ensures.1

pub loop-place-preserved : goal.loop-place-preserved
loop-place-preserved g c = λ r new h.
    c.loop-place.invariant r new (later (λ n. refl) (same (λ n. suffix_by (readers n) c.args.place c.loop-place.before c.loop-place.parser.words (sym c.begins_suffix.ensures ∙ c.loop-place-test.true))
    (ok _ c.in_ok-tail.ensures.reads (with_equal (λ before n. (readers n).suffixes c.args.place before c.tail.new.parser.words) c.in_ok-before.ensures r new h))))

pub returns : goal.returns
returns g c = c.loop-place.invariant _ _ (later (λ n. refl) (same (λ n. suffix_end (readers n) c.args.place c.loop-place.before c.loop-place.parser.words (sym c.begins_suffix.ensures ∙ c.loop-place-test.false)) done))
