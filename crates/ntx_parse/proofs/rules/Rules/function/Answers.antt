use Rattle.std.proofs.Common.{arith}
use Rattle.ntx_parse.specs.inner.Reading.{readers, read_body}
use Rattle.ntx_parse.proofs.reads.Answers.{ok, err_by, done, with_equal, shorter_of}
use Rattle.ntx_parse.proofs.rules.Rules.function.Goals as goal

pub returns-in_err-take_word-clause-reads : goal.returns-in_err-take_word-clause-reads
returns-in_err-take_word-clause-reads g c = err_by _ _ c.from_residual.ensures.1 c.in_err-take_word.ensures.reads

pub returns-in_err-name-clause-reads : goal.returns-in_err-name-clause-reads
returns-in_err-name-clause-reads g c = ok _ c.in_ok-take_word.ensures.reads (err_by _ _ c.from_residual-in_err-name.ensures.1 c.in_err-name.ensures.reads)

pub returns-in_err-fields-clause-reads : goal.returns-in_err-fields-clause-reads
returns-in_err-fields-clause-reads g c = ok _ c.in_ok-take_word.ensures.reads (ok _ c.in_ok-name.ensures.reads (err_by _ _ c.from_residual-in_err-fields.ensures.1 c.in_err-fields.ensures))

pub returns-in_err-body-clause-reads : goal.returns-in_err-body-clause-reads
returns-in_err-body-clause-reads g c = ok _ c.in_ok-take_word.ensures.reads (ok _ c.in_ok-name.ensures.reads (ok _ c.in_ok-fields.ensures (err_by _ _ c.from_residual-in_err-body.ensures.1 (with_equal (λ q n. read_body (readers n) q c.path.new.parser.words) c.within.ensures.is _ _ c.in_err-body.ensures))))

pub returns-clause-reads : goal.returns-clause-reads
returns-clause-reads g c = ok _ c.in_ok-take_word.ensures.reads (ok _ c.in_ok-name.ensures.reads (ok _ c.in_ok-fields.ensures (ok _ (with_equal (λ q n. read_body (readers n) q c.path.new.parser.words) c.within.ensures.is _ _ c.in_ok-body.ensures) (done))))

pub returns-clause-shorter : goal.returns-clause-shorter
returns-clause-shorter g c = omega (arith, c.in_ok-take_word.ensures.shorter, c.in_ok-name.ensures.shorter, shorter_of c.in_ok-fields.ensures, shorter_of c.in_ok-body.ensures)
