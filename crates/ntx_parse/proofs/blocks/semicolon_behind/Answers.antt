use Rattle.std.proofs.Common.{◌∙◌, sym}
use Rattle.ntx_parse.proofs.reads.Answers.{ok, err_by, done, when, unless}
use Rattle.ntx_parse.proofs.blocks.semicolon_behind.Goals as goal

pub returns-then-not-begins : goal.returns-then-not-begins
returns-then-not-begins c = unless _ (sym c.begins.ensures ∙ c.if-not-begins.true) done

pub returns-in_err-take_word : goal.returns-in_err-take_word
returns-in_err-take_word c = when _ (sym c.begins.ensures ∙ c.if-not-begins.false) (err_by _ _ c.from_residual.ensures.1 c.in_err-take_word.ensures.reads)

pub returns : goal.returns
returns c = when _ (sym c.begins.ensures ∙ c.if-not-begins.false) (ok _ c.in_ok-take_word.ensures.reads done)
