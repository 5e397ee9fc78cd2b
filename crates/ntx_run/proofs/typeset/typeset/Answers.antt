use Rattle.std.proofs.lemmas.Result.{err_from_is_err_and}
use Rattle.ntx_machine.specs.Seen.{view_of}
use Rattle.ntx_run.proofs.Carrying.{first_of_rest, no_rest, one_is_done, stops_at_one, all_are_done}
use Rattle.ntx_run.proofs.typeset.typeset.Goals as goal

pub loop-command-preserved : goal.loop-command-preserved
loop-command-preserved g c =
    one_is_done _ _ _ _ _ _ _ _ _ _ c.command-item.result (first_of_rest _ _ _ _ _ _ c.command-item.result c.command-item.is c.loop-command-test.true c.loop-command.invariant) c.command-answer.ensures.carries c.command-answer.ensures.writer c.in_ok-after_step.ensures

pub returns-in_err-after_step : goal.returns-in_err-after_step
returns-in_err-after_step g c =
    let p = err_from_is_err_and c.from_residual.result c.from_residual.ensures.1 in
    rw (p.1, p.2) (stops_at_one _ _ _ _ _ _ (view_of g.N.Nodes.heap c.after_step.new.machine) _ (g.O.Sink.output c.after_step.new.sink) _ c.command-item.result _ (first_of_rest _ _ _ _ _ _ c.command-item.result c.command-item.is c.loop-command-test.true c.loop-command.invariant) c.command-answer.ensures.carries c.in_err-after_step.ensures)

pub returns : goal.returns
returns g c =
    all_are_done _ _ _ _ _ (view_of g.N.Nodes.heap c.after_step-2.new.machine) _ (g.O.Sink.output c.after_step-2.new.sink) _ c.after_step-2.result (no_rest _ _ _ _ _ _ c.loop-command-test.false c.loop-command.invariant) c.finish-answer.ensures c.after_step-2.ensures
