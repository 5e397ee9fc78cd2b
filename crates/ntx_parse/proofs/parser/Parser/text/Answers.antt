use Rattle.std.proofs.Common.{sym}
use Rattle.ntx_parse.proofs.reads.Answers.{ok, err_by, no_memory_by, done}
use Rattle.ntx_parse.proofs.parser.Parser.text.Goals as goal

pub returns-in_err-word : goal.returns-in_err-word
returns-in_err-word c = err_by _ _ c.from_residual.ensures.1 c.in_err-word.ensures.reads

pub returns-in_err-value : goal.returns-in_err-value
returns-in_err-value c = no_memory_by _ c.from_residual-in_err-value.ensures.1

pub returns : goal.returns
returns c = ok _ c.in_ok-word.ensures.reads (rw (sym c.in_ok-value.ensures, c.from_vec.ensures) done)
