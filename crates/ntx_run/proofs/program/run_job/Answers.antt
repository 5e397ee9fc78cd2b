use Rattle.std.proofs.Common.{inr}
use Rattle.ntx_machine.specs.Seen.{view_of}
use Rattle.ntx_run.proofs.Machines.{closes_well, closes_stopped, runs_machine}
use Rattle.ntx_run.proofs.program.run_job.Goals as goal
use Rattle.ntx_run.proofs.program.run_job.Goals.{in-Ok-typeset, in-Err-typeset}

pub returns : goal.returns
returns g c =
    inr (runs_machine _ _ _ _ (view_of g.N.Nodes.heap c.in-Ok.machine) (view_of g.N.Nodes.heap c.typeset.new.machine) _ _ _ _ c.typeset.result c.match-typeset.outcome c.in-Ok.ensures c.as_slice.ensures.value c.typeset.ensures c.into_nodes.ensures (elim c.match-typeset.branch [
      | in-Ok-typeset w ↦ closes_well g.L.Sink.output c.typeset.result c.match-typeset.outcome c.args.lines.now c.match-typeset.lines w.in-Ok-typeset.field-0 w.in-Ok-typeset.is w.outcome-is w.lines-is
      | in-Err-typeset w ↦ closes_stopped g.L.Sink.output c.typeset.result c.match-typeset.outcome c.args.lines.now c.match-typeset.lines w.in-Err-typeset.why w.report-outcome.result w.report-outcome.new.lines w.in-Err-typeset.is w.outcome-is w.lines-is w.report-outcome.ensures
    ]))
