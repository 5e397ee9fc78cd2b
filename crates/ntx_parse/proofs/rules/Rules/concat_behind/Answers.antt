use Rattle.std.proofs.Common.{◌∙◌, sym}
use Rattle.ntx_parse.proofs.reads.Answers.{ok, err_by, no_memory_by, done, when, unless}
use Rattle.ntx_parse.proofs.rules.Rules.concat_behind.Goals as goal

pub returns-then-not-begins : goal.returns-then-not-begins
returns-then-not-begins g c = unless _ (sym c.begins.ensures ∙ c.if-not-begins.true) (done)

pub returns-in_err-take_word : goal.returns-in_err-take_word
returns-in_err-take_word g c = when _ (sym c.begins.ensures ∙ c.if-not-begins.false) (err_by _ _ c.from_residual.ensures.1 c.in_err-take_word.ensures.reads)

pub returns-in_err-right : goal.returns-in_err-right
returns-in_err-right g c = when _ (sym c.begins.ensures ∙ c.if-not-begins.false) (ok _ c.in_ok-take_word.ensures.reads (rw (sym c.within.ensures.is) (err_by _ _ c.from_residual-in_err-right.ensures.1 c.in_err-right.ensures)))

pub returns-in_err-concat_of : goal.returns-in_err-concat_of
returns-in_err-concat_of g c = no_memory_by _ c.from_residual-in_err-concat_of.ensures.1

pub returns : goal.returns
returns g c = when _ (sym c.begins.ensures ∙ c.if-not-begins.false) (ok _ c.in_ok-take_word.ensures.reads (rw (sym c.within.ensures.is) (ok _ c.in_ok-right.ensures (rw c.in_ok-concat_of.ensures done))))
