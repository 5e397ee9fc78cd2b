use Rattle.std.proofs.Common.{arith, ◌∙◌, sym}
use Rattle.ntx_parse.proofs.reads.Answers.{ok, err_by, done, when, unless, shorter_of}
use Rattle.ntx_parse.proofs.rules.Rules.arguments.Goals as goal

pub returns-in_err-expect_word-clause-reads : goal.returns-in_err-expect_word-clause-reads
returns-in_err-expect_word-clause-reads g c = err_by _ _ c.from_residual.ensures.1 c.in_err-expect_word.ensures.reads

pub returns-in_err-take_word-clause-reads : goal.returns-in_err-take_word-clause-reads
returns-in_err-take_word-clause-reads g c = ok _ c.in_ok-expect_word.ensures.reads (when _ (sym c.begins.ensures ∙ c.if-begins.true) (err_by _ _ c.from_residual-in_err-take_word.ensures.1 c.in_err-take_word.ensures.reads))

pub returns-then-begins-clause-reads : goal.returns-then-begins-clause-reads
returns-then-begins-clause-reads g c = ok _ c.in_ok-expect_word.ensures.reads (when _ (sym c.begins.ensures ∙ c.if-begins.true) (ok _ c.in_ok-take_word.ensures.reads (rw c.new.ensures done)))

pub returns-then-begins-clause-shorter : goal.returns-then-begins-clause-shorter
returns-then-begins-clause-shorter g c = omega (arith, c.in_ok-expect_word.ensures.shorter, c.in_ok-take_word.ensures.shorter)

pub returns-in_err-arguments-clause-reads : goal.returns-in_err-arguments-clause-reads
returns-in_err-arguments-clause-reads g c = ok _ c.in_ok-expect_word.ensures.reads (unless _ (sym c.begins.ensures ∙ c.if-begins.false) (err_by _ _ c.from_residual-in_err-arguments.ensures.1 c.in_err-arguments.ensures))

pub returns-in_err-expect_word-2-clause-reads : goal.returns-in_err-expect_word-2-clause-reads
returns-in_err-expect_word-2-clause-reads g c = ok _ c.in_ok-expect_word.ensures.reads (unless _ (sym c.begins.ensures ∙ c.if-begins.false) (ok _ c.in_ok-arguments.ensures (err_by _ _ c.from_residual-in_err-expect_word-2.ensures.1 c.in_err-expect_word-2.ensures.reads)))

pub returns-clause-reads : goal.returns-clause-reads
returns-clause-reads g c = ok _ c.in_ok-expect_word.ensures.reads (unless _ (sym c.begins.ensures ∙ c.if-begins.false) (ok _ c.in_ok-arguments.ensures (ok _ c.in_ok-expect_word-2.ensures.reads (done))))

pub returns-clause-shorter : goal.returns-clause-shorter
returns-clause-shorter g c = omega (arith, c.in_ok-expect_word.ensures.shorter, shorter_of c.in_ok-arguments.ensures, c.in_ok-expect_word-2.ensures.shorter)
