use Rattle.std.proofs.Common.{◌∙◌, sym}
use Rattle.ntx_parse.proofs.reads.Answers.{ok, err_by, done, when, unless}
use Rattle.ntx_parse.proofs.rules.Rules.step_behind.Goals as goal

pub returns-then-not-begins : goal.returns-then-not-begins
returns-then-not-begins g c = unless _ (sym c.begins.ensures ∙ c.if-not-begins.true) (done)

pub returns-in_err-take_word : goal.returns-in_err-take_word
returns-in_err-take_word g c = when _ (sym c.begins.ensures ∙ c.if-not-begins.false) (err_by _ _ c.from_residual.ensures.1 c.in_err-take_word.ensures.reads)

pub returns-in_err-value : goal.returns-in_err-value
returns-in_err-value g c = when _ (sym c.begins.ensures ∙ c.if-not-begins.false) (ok _ c.in_ok-take_word.ensures.reads (err_by _ _ c.from_residual-in_err-value.ensures.1 c.in_err-value.ensures))

pub returns : goal.returns
returns g c = when _ (sym c.begins.ensures ∙ c.if-not-begins.false) (ok _ c.in_ok-take_word.ensures.reads (ok _ c.in_ok-value.ensures (done)))
