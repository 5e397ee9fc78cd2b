use Rattle.std.proofs.Common.{◌∙◌, sym}
use Rattle.ntx_parse.proofs.reads.Answers.{ok, err_by, done, when, unless}
use Rattle.ntx_parse.proofs.rules.Rules.field.Goals as goal

pub returns-in_err-key : goal.returns-in_err-key
returns-in_err-key g c = when _ (sym c.begins.ensures ∙ c.if-begins.true) (rw (sym c.within.ensures.is) (err_by _ _ c.from_residual.ensures.1 c.in_err-key.ensures.reads))

pub returns-in_err-expect_word : goal.returns-in_err-expect_word
returns-in_err-expect_word g c = when _ (sym c.begins.ensures ∙ c.if-begins.true) (rw (sym c.within.ensures.is) (ok _ c.in_ok-key.ensures.reads (err_by _ _ c.from_residual-in_err-expect_word.ensures.1 c.in_err-expect_word.ensures.reads)))

pub returns-in_err-value : goal.returns-in_err-value
returns-in_err-value g c = when _ (sym c.begins.ensures ∙ c.if-begins.true) (rw (sym c.within.ensures.is) (ok _ c.in_ok-key.ensures.reads (ok _ c.in_ok-expect_word.ensures.reads (err_by _ _ c.from_residual-in_err-value.ensures.1 c.in_err-value.ensures))))

pub returns-in_ok-value : goal.returns-in_ok-value
returns-in_ok-value g c = when _ (sym c.begins.ensures ∙ c.if-begins.true) (rw (sym c.within.ensures.is) (ok _ c.in_ok-key.ensures.reads (ok _ c.in_ok-expect_word.ensures.reads (ok _ c.in_ok-value.ensures (done)))))

pub returns-in_err-name : goal.returns-in_err-name
returns-in_err-name g c = unless _ (sym c.begins.ensures ∙ c.if-begins.false) (when _ (sym c.names_a_field.ensures ∙ c.if-names_a_field.true) (err_by _ _ c.from_residual-in_err-name.ensures.1 c.in_err-name.ensures.reads))

pub returns-in_err-expect_word-2 : goal.returns-in_err-expect_word-2
returns-in_err-expect_word-2 g c = unless _ (sym c.begins.ensures ∙ c.if-begins.false) (when _ (sym c.names_a_field.ensures ∙ c.if-names_a_field.true) (ok _ c.in_ok-name.ensures.reads (err_by _ _ c.from_residual-in_err-expect_word-2.ensures.1 c.in_err-expect_word-2.ensures.reads)))

pub returns-in_err-value-2 : goal.returns-in_err-value-2
returns-in_err-value-2 g c = unless _ (sym c.begins.ensures ∙ c.if-begins.false) (when _ (sym c.names_a_field.ensures ∙ c.if-names_a_field.true) (ok _ c.in_ok-name.ensures.reads (ok _ c.in_ok-expect_word-2.ensures.reads (err_by _ _ c.from_residual-in_err-value-2.ensures.1 c.in_err-value-2.ensures))))

pub returns-in_ok-value-2 : goal.returns-in_ok-value-2
returns-in_ok-value-2 g c = unless _ (sym c.begins.ensures ∙ c.if-begins.false) (when _ (sym c.names_a_field.ensures ∙ c.if-names_a_field.true) (ok _ c.in_ok-name.ensures.reads (ok _ c.in_ok-expect_word-2.ensures.reads (ok _ c.in_ok-value-2.ensures (done)))))

pub returns-in_err-value-3 : goal.returns-in_err-value-3
returns-in_err-value-3 g c = unless _ (sym c.begins.ensures ∙ c.if-begins.false) (unless _ (sym c.names_a_field.ensures ∙ c.if-names_a_field.false) (err_by _ _ c.from_residual-in_err-value-3.ensures.1 c.in_err-value-3.ensures))

pub returns-in_ok-value-3 : goal.returns-in_ok-value-3
returns-in_ok-value-3 g c = unless _ (sym c.begins.ensures ∙ c.if-begins.false) (unless _ (sym c.names_a_field.ensures ∙ c.if-names_a_field.false) (ok _ c.in_ok-value-3.ensures (done)))
