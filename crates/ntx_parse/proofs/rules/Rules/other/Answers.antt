use Rattle.std.proofs.Common.{◌∙◌, sym}
use Rattle.ntx_parse.proofs.reads.Answers.{ok, err_by, done, when, unless}
use Rattle.ntx_parse.proofs.rules.Rules.other.Goals as goal

pub returns-then-not-begins : goal.returns-then-not-begins
returns-then-not-begins g c = unless _ (sym c.begins.ensures ∙ c.if-not-begins.true) (done)

pub returns-in_err-take_word : goal.returns-in_err-take_word
returns-in_err-take_word g c = when _ (sym c.begins.ensures ∙ c.if-not-begins.false) (err_by _ _ c.from_residual.ensures.1 c.in_err-take_word.ensures.reads)

pub returns-in_err-block : goal.returns-in_err-block
returns-in_err-block g c = when _ (sym c.begins.ensures ∙ c.if-not-begins.false) (ok _ c.in_ok-take_word.ensures.reads (rw (sym c.within.ensures.is) (err_by _ _ c.from_residual-in_err-block.ensures.1 c.in_err-block.ensures)))

pub returns : goal.returns
returns g c = when _ (sym c.begins.ensures ∙ c.if-not-begins.false) (ok _ c.in_ok-take_word.ensures.reads (rw (sym c.within.ensures.is) (ok _ c.in_ok-block.ensures (done))))
