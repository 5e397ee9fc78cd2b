-- How the calls of a machine end.
use Rattle.std.proofs.Common.{◌≡◌, None, Result, refl, sym, subst}
use Rattle.ntx_num.specs.Trace.{EndsAs}
use Rattle.ntx_num.proofs.Traces.{traces}
use Rattle.ntx_machine.specs.declared.stop.Stop.{Stop}
use Rattle.ntx_machine.specs.State.{State}
use Rattle.ntx_machine.specs.Job.{Step}
use Rattle.ntx_machine.specs.Machine.{MachineView, fails, kept_of, CarriesFrom, Carries}

-- A machine that had not stopped keeps the answer of the step.
pub carried : (answer : Result (Unit {0}) Stop) (old : MachineView) (new : State) (step : Step) → old.stopped ≡ None → EndsAs (fails answer) new (step old.state) → Carries answer old (record old { state = new; stopped = kept_of answer }) step
carried answer old new step none ends =
    let kept = record old { state = new; stopped = kept_of answer } in
    record { goes = subst (λ o. CarriesFrom o answer old kept step) (sym none) (traces (fails answer) new (step old.state) ends, refl); fonts = refl }
