use Rattle.std.proofs.Common.{refl, ap}
use Rattle.ntx_parse.proofs.reads.Answers.{ok, err_by, done, when, unless, stops_at_once, line_kept}
use Rattle.ntx_syntax.specs.declared.fault.SyntaxWhy.TheVariants.{Break}
use Rattle.ntx_parse.specs.inner.Input.{line_of}
use Rattle.ntx_parse.proofs.statements.break_stat.Goals as goal

pub returns-in_err-take_word-clause-reads : goal.returns-in_err-take_word-clause-reads
returns-in_err-take_word-clause-reads c = err_by _ _ c.from_residual.ensures.1 c.in_err-take_word.ensures.reads

pub returns-then-place-clause-reads : goal.returns-then-place-clause-reads
returns-then-place-clause-reads c = ok _ c.in_ok-take_word.ensures.reads (when _ (c.if-place.true) (done))

pub returns-else-place-clause-reads : goal.returns-else-place-clause-reads
returns-else-place-clause-reads c = rw c.fault-fault.ensures (ok _ c.in_ok-take_word.ensures.reads (unless _ (c.if-place.false) (stops_at_once _ refl (ap (λ l. record { line = line_of l c.args.parser.now.words; why = Break }) (line_kept c.in_ok-take_word.ensures.reads)))))
