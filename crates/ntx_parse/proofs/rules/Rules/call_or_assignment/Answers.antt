use Rattle.std.proofs.Common.{refl, sym}
use Rattle.ntx_parse.proofs.reads.Answers.{ok, err_by, no_memory_by, done, stops_at_once, stays_shorter}
use Rattle.ntx_parse.proofs.rules.Rules.call_or_assignment.Goals as goal

pub returns-in_err-found-clause-reads : goal.returns-in_err-found-clause-reads
returns-in_err-found-clause-reads g c = err_by _ _ c.from_residual.ensures.1 c.in_err-found.ensures.reads

pub returns-in-Name-clause-reads : goal.returns-in-Name-clause-reads
returns-in-Name-clause-reads g c = ok _ c.in_ok-found.ensures.reads (rw c.in-Name.is c.assignment_to.ensures)

pub returns-in-Name-clause-shorter : goal.returns-in-Name-clause-shorter
returns-in-Name-clause-shorter g c = stays_shorter c.assignment_to.ensures c.in_ok-found.ensures.shorter

pub returns-in-Parenthesized-clause-reads : goal.returns-in-Parenthesized-clause-reads
returns-in-Parenthesized-clause-reads g c = ok _ c.in_ok-found.ensures.reads (rw (c.in-Parenthesized.is, c.fault.ensures) (stops_at_once _ refl refl))

pub returns-in_err-indexed-in-Index-clause-reads : goal.returns-in_err-indexed-in-Index-clause-reads
returns-in_err-indexed-in-Index-clause-reads g c = no_memory_by _ c.from_residual-in_err-indexed-in-Index.ensures.1

pub returns-in-Index-clause-reads : goal.returns-in-Index-clause-reads
returns-in-Index-clause-reads g c = ok _ c.in_ok-found.ensures.reads (rw (c.in-Index.is, sym c.in_ok-indexed-in-Index.ensures) c.assignment_to-in-Index.ensures)

pub returns-in-Index-clause-shorter : goal.returns-in-Index-clause-shorter
returns-in-Index-clause-shorter g c = stays_shorter c.assignment_to-in-Index.ensures c.in_ok-found.ensures.shorter

pub returns-in_err-table-in-Field-clause-reads : goal.returns-in_err-table-in-Field-clause-reads
returns-in_err-table-in-Field-clause-reads g c = no_memory_by _ c.from_residual-in_err-table-in-Field.ensures.1

pub returns-in-Field-clause-reads : goal.returns-in-Field-clause-reads
returns-in-Field-clause-reads g c = ok _ c.in_ok-found.ensures.reads (rw (c.in-Field.is, sym c.in_ok-table-in-Field.ensures) c.assignment_to-in-Field.ensures)

pub returns-in-Field-clause-shorter : goal.returns-in-Field-clause-shorter
returns-in-Field-clause-shorter g c = stays_shorter c.assignment_to-in-Field.ensures c.in_ok-found.ensures.shorter

pub returns-in_err-call-in-Call-clause-reads : goal.returns-in_err-call-in-Call-clause-reads
returns-in_err-call-in-Call-clause-reads g c = no_memory_by _ c.from_residual-in_err-call-in-Call.ensures.1

pub returns-clause-reads : goal.returns-clause-reads
returns-clause-reads g c = ok _ c.in_ok-found.ensures.reads (rw (c.in-Call.is, c.in_ok-call-in-Call.ensures) done)
