use Rattle.ntx_parse.specs.inner.Reading.{readers, read_body}
use Rattle.ntx_parse.proofs.reads.Answers.{ok, err_by, done, with_equal}
use Rattle.ntx_parse.proofs.rules.Rules.function_exp.Goals as goal

pub returns-in_err-take_word : goal.returns-in_err-take_word
returns-in_err-take_word g c = err_by _ _ c.from_residual.ensures.1 c.in_err-take_word.ensures.reads

pub returns-in_err-body : goal.returns-in_err-body
returns-in_err-body g c = ok _ c.in_ok-take_word.ensures.reads (err_by _ _ c.from_residual-in_err-body.ensures.1 (with_equal (λ q n. read_body (readers n) q c.take_word.new.self.words) c.within.ensures.is _ _ c.in_err-body.ensures))

pub returns : goal.returns
returns g c = ok _ c.in_ok-take_word.ensures.reads (ok _ (with_equal (λ q n. read_body (readers n) q c.take_word.new.self.words) c.within.ensures.is _ _ c.in_ok-body.ensures) (done))
