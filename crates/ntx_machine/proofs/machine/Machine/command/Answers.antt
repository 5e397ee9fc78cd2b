use Rattle.std.proofs.Common.{List, sym, subst}
use Rattle.ntx_num.specs.Trace.{EndsAs}
use Rattle.ntx_tfm.specs.Font.{FontTables}
use Rattle.ntx_machine.specs.State.{State}
use Rattle.ntx_machine.specs.Job.{command_step}
use Rattle.ntx_machine.specs.Machine.{MachineView, fails, Carries}
use Rattle.ntx_machine.specs.Seen.{state_of, view_of}
use Rattle.ntx_machine.proofs.Calls.{carried}
use Rattle.ntx_machine.proofs.machine.Machine.command.Goals as goal

pub returns-in-None-clause-carries : goal.returns-in-None-clause-carries
returns-in-None-clause-carries g c =
    let h = g.N.Nodes.heap in
    let old : MachineView = view_of h c.args.self.now in
    let new : State = state_of h c.command-answer.new.self in
    let answer = c.command-answer.result in
    let step = command_step old.fonts c.args.command.now in
    let ends = subst (λ (fonts : List FontTables). EndsAs (fails answer) new (command_step fonts c.args.command.now old.state)) c.as_slice-fonts.ensures.value c.command-answer.ensures.ends in
    subst (λ r. Carries r old (view_of h c.keep.new.self) step) (sym c.keep.ensures.result)
    (subst (λ (m : MachineView). Carries answer old m step) (sym c.keep.ensures.kept) (carried answer old new step c.in-None.is ends))
