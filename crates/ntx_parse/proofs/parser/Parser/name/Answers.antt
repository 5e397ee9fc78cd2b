use Rattle.ntx_parse.proofs.reads.Answers.{ok, err_by, no_memory_by, done}
use Rattle.ntx_parse.proofs.parser.Parser.name.Goals as goal

pub returns-in_err-word-clause-reads : goal.returns-in_err-word-clause-reads
returns-in_err-word-clause-reads c = err_by _ _ c.from_residual.ensures.1 c.in_err-word.ensures.reads

pub returns-in_err-from_slice-clause-reads : goal.returns-in_err-from_slice-clause-reads
returns-in_err-from_slice-clause-reads c = no_memory_by _ c.from_residual-in_err-from_slice.ensures.1

pub returns-clause-reads : goal.returns-clause-reads
returns-clause-reads c = ok _ c.in_ok-word.ensures.reads (rw c.in_ok-from_slice.ensures done)
