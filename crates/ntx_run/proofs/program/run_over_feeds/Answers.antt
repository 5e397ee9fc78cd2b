use Rattle.std.proofs.Common.{refl, sym, subst}
use Rattle.ntx_run.specs.inner.Words.{FitsWith}
use Rattle.ntx_run.proofs.Fitting.{fits_none, fits_some}
use Rattle.ntx_run.proofs.Cases.{answers_without, runs_words, runs_no_words, runs_inputs}
use Rattle.ntx_run.proofs.JobCases.{runs_job}
use Rattle.ntx_run.proofs.program.run_over_feeds.Goals as goal

pub returns-in-Ok-None : goal.returns-in-Ok-None
returns-in-Ok-None g c =
    answers_without _ _ _ _ g.N.Nodes.heap c.report.result _ _ c.without_nodes.result.2 c.without_nodes.ensures.status c.without_nodes.ensures.place c.without_nodes.ensures.nodes
    (runs_words _ _ _ _ c.report.result (fits_none _ _ _ _ c.in-Ok-None.field-0-is c.in-Ok-None.ensures) refl refl c.report.ensures)

pub returns-in-Err : goal.returns-in-Err
returns-in-Err g c =
    answers_without _ _ _ _ g.N.Nodes.heap c.report-in-Err.result _ _ c.without_nodes-in-Err.result.2 c.without_nodes-in-Err.ensures.status c.without_nodes-in-Err.ensures.place c.without_nodes-in-Err.ensures.nodes
    (runs_no_words _ _ _ _ c.report-in-Err.result refl refl c.report-in-Err.ensures)

pub returns-in-Err-read_inputs : goal.returns-in-Err-read_inputs
returns-in-Err-read_inputs g c =
    answers_without _ _ _ _ g.N.Nodes.heap c.report-in-Err-read_inputs.result _ _ c.without_nodes-in-Err-read_inputs.result.2 c.without_nodes-in-Err-read_inputs.ensures.status c.without_nodes-in-Err-read_inputs.ensures.place c.without_nodes-in-Err-read_inputs.ensures.nodes
    (runs_inputs _ _ _ _ _ _ _ c.report-in-Err-read_inputs.result (subst (FitsWith _ _) (sym c.as_slice.ensures.value) (fits_some _ _ _ _ _ c.in-Ok-Some.field-0-is c.in-Ok-Some.ensures)) refl c.in-Err-read_inputs.ensures.reads refl c.report-in-Err-read_inputs.ensures)

pub returns-in-Ok : goal.returns-in-Ok
returns-in-Ok g c =
    runs_job _ _ _ _ _ _ _ _ _ _ (subst (FitsWith _ _) (sym c.as_slice.ensures.value) (fits_some _ _ _ _ _ c.in-Ok-Some.field-0-is c.in-Ok-Some.ensures)) c.in-Ok.ensures.reads refl c.run_job.ensures
