use Rattle.std.proofs.lemmas.Result.{err_from_is_err_and}
use Rattle.ntx_machine.specs.State.{State}
use Rattle.ntx_machine.specs.Machine.{failing, fails}
use Rattle.ntx_machine.specs.Seen.{state_of}
use Rattle.ntx_machine.proofs.Pages.{finding_stops, making_stops, page_ends}
use Rattle.ntx_machine.proofs.engine.Engine.page_of.Goals as goal

pub returns-in_err-glue-clause-ends : goal.returns-in_err-glue-clause-ends
returns-in_err-glue-clause-ends g c =
    let h = g.N.Nodes.heap in
    let s : State = state_of h c.args.self.now in
    let p = err_from_is_err_and c.from_residual.result c.from_residual.ensures.1 in
    rw (p.1, p.2) (finding_stops c.args.fonts.now c.args.first s (state_of h c.find_top.new.self) (failing c.in_err-glue.field-0.0) c.in_err-glue.ensures.ends)

pub returns-in_err-top-clause-ends : goal.returns-in_err-top-clause-ends
returns-in_err-top-clause-ends g c =
    let h = g.N.Nodes.heap in
    let s : State = state_of h c.args.self.now in
    let t : State = state_of h c.find_top.new.self in
    let p = err_from_is_err_and c.from_residual-in_err-top.result c.from_residual-in_err-top.ensures.1 in
    rw (p.1, p.2) (making_stops c.args.fonts.now c.args.first c.in_ok-glue.glue s t (state_of h c.make_top.new.self) (failing c.in_err-top.field-0.0) c.in_ok-glue.ensures.ends c.in_err-top.ensures.ends)

pub returns-clause-ends : goal.returns-clause-ends
returns-clause-ends g c =
    let h = g.N.Nodes.heap in
    let s : State = state_of h c.args.self.now in
    let t : State = state_of h c.find_top.new.self in
    let u : State = state_of h c.make_top.new.self in
    page_ends c.args.fonts.now c.args.first c.in_ok-top.top c.in_ok-glue.glue s t u (state_of h c.pack_page.new.self) (fails c.pack_page.result) c.in_ok-glue.ensures.ends c.in_ok-top.ensures.ends c.pack_page.ensures.ends
