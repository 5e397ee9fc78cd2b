use Rattle.std.proofs.Common.{◌∙◌, sym}
use Rattle.ntx_parse.proofs.reads.Answers.{ok, err_by, done, when, unless}
use Rattle.ntx_parse.proofs.rules.Rules.last.Goals as goal

pub returns-then-not-begins : goal.returns-then-not-begins
returns-then-not-begins g c = unless _ (sym c.begins.ensures ∙ c.if-not-begins.true) (done)

pub returns-in_err-word : goal.returns-in_err-word
returns-in_err-word g c = when _ (sym c.begins.ensures ∙ c.if-not-begins.false) (err_by _ _ c.from_residual.ensures.1 c.in_err-word.ensures.reads)

pub returns-in_err-values : goal.returns-in_err-values
returns-in_err-values g c = when _ (sym c.begins.ensures ∙ c.if-not-begins.false) (ok _ c.in_ok-word.ensures.reads (err_by _ _ c.from_residual-in_err-values.ensures.1 c.in_err-values.ensures))

pub returns-in_err-semicolon_behind : goal.returns-in_err-semicolon_behind
returns-in_err-semicolon_behind g c = when _ (sym c.begins.ensures ∙ c.if-not-begins.false) (ok _ c.in_ok-word.ensures.reads (ok _ c.in_ok-values.ensures (err_by _ _ c.from_residual-in_err-semicolon_behind.ensures.1 c.in_err-semicolon_behind.ensures)))

pub returns : goal.returns
returns g c = when _ (sym c.begins.ensures ∙ c.if-not-begins.false) (ok _ c.in_ok-word.ensures.reads (ok _ c.in_ok-values.ensures (ok _ c.in_ok-semicolon_behind.ensures (done))))
