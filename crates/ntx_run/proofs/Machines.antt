-- What a machine that is made, run and let go does with a job.
use Rattle.std.proofs.Common.{◌≡◌, List, None, Some, Result, Ok, Err, refl, ap, sym, subst}
use Rattle.ntx_nodes.specs.Heap.{Heap}
use Rattle.ntx_io.specs.Outside.{Output}
use Rattle.ntx_doc.specs.declared.command.Command.{Command}
use Rattle.ntx_machine.specs.Job.{job_ran}
use Rattle.ntx_machine.specs.Machine.{MachineView, new_machine}
use Rattle.ntx_run.specs.declared.stop.StopReason.{StopReason}
use Rattle.ntx_run.specs.declared.outcome.Outcome.{Outcome}
use Rattle.ntx_run.specs.declared.outcome.Status.TheVariants as status
use Rattle.ntx_run.specs.Run.{Job}
use Rattle.ntx_run.specs.inner.Parts.{CarriesOut, Typesets, Reports, Closes, RunsMachine}

-- ---- how a run ends after the typesetting

module _ {L : Type 0} (output : L → Output) (answer : Result (Unit {0}) StopReason) (outcome : Outcome) (lines after : L) where
  pub closes_well : (a : Unit {0}) → answer ≡ Ok a → outcome ≡ record { status = status.Done; place = None } → after ≡ lines → Closes answer (output lines) (output after) outcome
  closes_well a is done same = subst (λ r. Closes r (output lines) (output after) outcome) (sym is) (done, ap output same)

  pub closes_stopped : (why : StopReason) (reported : Outcome) (told : L) → answer ≡ Err why → outcome ≡ reported → after ≡ told → Reports why (output lines) (output told) reported → Closes answer (output lines) (output after) outcome
  closes_stopped why reported told is ends same reports =
      subst (λ r. Closes r (output lines) (output after) outcome) (sym is)
      (subst (λ o. Reports why (output lines) (output after) o) (sym ends)
      (subst (λ l. Reports why (output lines) (output l) reported) (sym same) reports))

-- ---- all of it

pub runs_machine : (job : Job) (opening given : Heap) (shown : List Command) (old new : MachineView) (dvi_before dvi_after lines_before lines_after : Output) (answer : Result (Unit {0}) StopReason) (outcome : Outcome) → old ≡ new_machine job.fonts opening → shown ≡ job.commands → Typesets shown old new dvi_before dvi_after answer → given ≡ new.state.heap → Closes answer lines_before lines_after outcome → RunsMachine job opening dvi_before dvi_after lines_before lines_after outcome (Some given)
runs_machine job opening given shown old new dvi_before dvi_after lines_before lines_after answer outcome made same typesets left closes =
    let over_new : Typesets shown (new_machine job.fonts opening) new dvi_before dvi_after answer = subst (λ m. Typesets shown m new dvi_before dvi_after answer) made typesets in
    let all : Typesets job.commands (new_machine job.fonts opening) new dvi_before dvi_after answer = subst (λ cs. Typesets cs (new_machine job.fonts opening) new dvi_before dvi_after answer) same over_new in
    record {
      answer = answer;
      heap = given;
      carries = subst (λ h. CarriesOut (job_ran job.fonts job.commands opening) opening dvi_before dvi_after h answer) (sym left) (all refl);
      closes = closes;
      some = refl;
    }
