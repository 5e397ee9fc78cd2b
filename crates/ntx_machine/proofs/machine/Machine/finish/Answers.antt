use Rattle.std.proofs.Common.{List, sym, subst}
use Rattle.ntx_num.specs.Trace.{EndsAs}
use Rattle.ntx_tfm.specs.Font.{FontTables}
use Rattle.ntx_machine.specs.State.{State}
use Rattle.ntx_machine.specs.Shipout.{ended}
use Rattle.ntx_machine.specs.Machine.{MachineView, fails, Carries}
use Rattle.ntx_machine.specs.Seen.{state_of, view_of}
use Rattle.ntx_machine.proofs.Calls.{carried}
use Rattle.ntx_machine.proofs.machine.Machine.finish.Goals as goal

pub returns-in-None : goal.returns-in-None
returns-in-None g c =
    let h = g.N.Nodes.heap in
    let old : MachineView = view_of h c.args.self.now in
    let new : State = state_of h c.end-answer.new.self in
    let answer = c.end-answer.result in
    let ends = subst (λ (fonts : List FontTables). EndsAs (fails answer) new (ended fonts old.state)) c.as_slice.ensures.value c.end-answer.ensures in
    subst (λ r. Carries r old (view_of h c.keep.new.self) (ended old.fonts)) (sym c.keep.ensures.result)
    (subst (λ (m : MachineView). Carries answer old m (ended old.fonts)) (sym c.keep.ensures.kept) (carried answer old new (ended old.fonts) c.in-None.is ends))
