use Rattle.ntx_parse.specs.inner.Reading.{readers}
use Rattle.ntx_parse.proofs.reads.Answers.{same}
use Rattle.ntx_parse.proofs.complete.Stats.{kind_other}
use Rattle.ntx_parse.proofs.rules.Rules.kind.Goals as goal

pub returns-in-Semicolon-clause-reads : goal.returns-in-Semicolon-clause-reads
returns-in-Semicolon-clause-reads g c = rw c.in-Semicolon.is c.empty.ensures.reads

pub returns-in-Break-clause-reads : goal.returns-in-Break-clause-reads
returns-in-Break-clause-reads g c = rw c.in-Break.is c.break_stat.ensures.reads

pub returns-in-Do-clause-reads : goal.returns-in-Do-clause-reads
returns-in-Do-clause-reads g c = rw c.in-Do.is c.do_block.ensures.reads

pub returns-in-While-clause-reads : goal.returns-in-While-clause-reads
returns-in-While-clause-reads g c = rw c.in-While.is c.while_loop.ensures.reads

pub returns-in-Repeat-clause-reads : goal.returns-in-Repeat-clause-reads
returns-in-Repeat-clause-reads g c = rw c.in-Repeat.is c.repeat_loop.ensures.reads

pub returns-in-If-clause-reads : goal.returns-in-If-clause-reads
returns-in-If-clause-reads g c = rw c.in-If.is c.if_stat.ensures.reads

pub returns-in-For-clause-reads : goal.returns-in-For-clause-reads
returns-in-For-clause-reads g c = rw c.in-For.is c.for_loop.ensures.reads

pub returns-in-Function-clause-reads : goal.returns-in-Function-clause-reads
returns-in-Function-clause-reads g c = rw c.in-Function.is c.function.ensures.reads

pub returns-in-Local-clause-reads : goal.returns-in-Local-clause-reads
returns-in-Local-clause-reads g c = rw c.in-Local.is c.local.ensures.reads

pub returns-in_default-clause-reads : goal.returns-in_default-clause-reads
returns-in_default-clause-reads g c =
    same (λ n. kind_other (readers n) c.args.place c.args.begins c.args.parser.now.words c.in_default.not-Semicolon c.in_default.not-Break c.in_default.not-Do c.in_default.not-While c.in_default.not-Repeat c.in_default.not-If c.in_default.not-For c.in_default.not-Function c.in_default.not-Local) c.call_or_assignment.ensures.reads
