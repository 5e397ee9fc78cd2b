use Rattle.std.proofs.Common.{Ok, Err, sym, ◌∙◌, ap, subst}
use Rattle.std.proofs.lemmas.Result.{err_from_is_err_and}
use Rattle.ntx_dvi.specs.Fonts.{AreKnown}
use Rattle.ntx_dvi.specs.Operation.{Begin, End}
use Rattle.ntx_dvi.specs.Writer.{Writer}
use Rattle.ntx_ship.specs.Operations.{definition_at}
use Rattle.ntx_machine.specs.State.{State, with_writer}
use Rattle.ntx_machine.specs.Machine.{failing, fails}
use Rattle.ntx_machine.specs.Seen.{state_of}
use Rattle.ntx_machine.proofs.Endings.{write_ends, known_at_start, page_stops, begin_stops, ship_stops, end_ends}
use Rattle.ntx_machine.proofs.engine.Engine.end.Goals as goal

pub returns-in_err-page : goal.returns-in_err-page
returns-in_err-page g c =
    let h = g.N.Nodes.heap in
    let s : State = state_of h c.args.self.now in
    let p = err_from_is_err_and c.from_residual.result c.from_residual.ensures.1 in
    rw (p.1, p.2) (page_stops c.args.fonts.now s (state_of h c.last_page.new.self) (failing c.in_err-page.field-0.0) c.in_err-page.ensures.ends)

pub returns-in_err-written : goal.returns-in_err-written
returns-in_err-written g c =
    let h = g.N.Nodes.heap in
    let s : State = state_of h c.args.self.now in
    let t : State = state_of h c.last_page.new.self in
    let why = c.in_err-written.field-0.0 in
    let p = err_from_is_err_and c.from_residual-in_err-written.result c.from_residual-in_err-written.ensures.1 in
    rw (p.1, p.2) (begin_stops c.args.fonts.now c.in_ok-page.page s t (with_writer t c.begin.new.self) (failing why) c.in_ok-page.ensures.ends
    (write_ends Begin (Err why) c.begin.result t c.begin.new.self c.in_err-written.ensures c.begin.ensures.steps))

pub ship_if-requires-clause-known : goal.ship_if-requires-clause-known
ship_if-requires-clause-known g c =
    let known = definition_at c.args.fonts.now in
    subst (λ fonts. AreKnown fonts known) (sym (c.begin.ensures.fonts ∙ ap (λ (w : Writer). w.progress.fonts) (c.last_page.ensures.writer ∙ c.requires))) (known_at_start known)

pub returns-in_err-ship_if : goal.returns-in_err-ship_if
returns-in_err-ship_if g c =
    let h = g.N.Nodes.heap in
    let s : State = state_of h c.args.self.now in
    let t : State = state_of h c.last_page.new.self in
    let a = c.in_ok-written.field-0 in
    let p = err_from_is_err_and c.from_residual-in_err-ship_if.result c.from_residual-in_err-ship_if.ensures.1 in
    rw (p.1, p.2) (ship_stops c.args.fonts.now c.in_ok-page.page s t (with_writer t c.begin.new.self) (state_of h c.ship_if.new.self) a (failing c.in_err-ship_if.field-0.0) c.in_ok-page.ensures.ends
    (write_ends Begin (Ok a) c.begin.result t c.begin.new.self c.in_ok-written.ensures c.begin.ensures.steps) c.in_err-ship_if.ensures.ends)

pub returns : goal.returns
returns g c =
    let h = g.N.Nodes.heap in
    let s : State = state_of h c.args.self.now in
    let t : State = state_of h c.last_page.new.self in
    let v : State = state_of h c.ship_if.new.self in
    let a = c.in_ok-written.field-0 in
    end_ends c.args.fonts.now c.in_ok-page.page s t (with_writer t c.begin.new.self) v (with_writer v c.end.new.self) a c.in_ok-ship_if.field-0 (fails c.written-2.result) c.in_ok-page.ensures.ends
    (write_ends Begin (Ok a) c.begin.result t c.begin.new.self c.in_ok-written.ensures c.begin.ensures.steps) c.in_ok-ship_if.ensures.ends
    (write_ends End c.written-2.result c.end.result v c.end.new.self c.written-2.ensures c.end.ensures.steps)
