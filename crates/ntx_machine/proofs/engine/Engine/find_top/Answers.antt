use Rattle.std.proofs.Common.{Some, Err}
use Rattle.std.proofs.lemmas.Result.{err_from_is_err_and}
use Rattle.ntx_nodes.specs.declared.trouble.Phase.TheVariants as phase
use Rattle.ntx_nodes.specs.declared.kind.ListKind.TheVariants.{V}
use Rattle.ntx_view.specs.View.{items_answer}
use Rattle.ntx_machine.specs.State.{State, with_heap}
use Rattle.ntx_machine.specs.Machine.{failing}
use Rattle.ntx_machine.specs.Seen.{state_of}
use Rattle.ntx_machine.proofs.Pages.{found_list_ends, items_stop}
use Rattle.ntx_machine.proofs.engine.Engine.find_top.Goals as goal

pub returns-in_err-_items-clause-ends : goal.returns-in_err-_items-clause-ends
returns-in_err-_items-clause-ends g c =
    let h = g.N.Nodes.heap in
    let s : State = state_of h c.args.self.now in
    let why = c.in_err-_items.field-0.0 in
    let p = err_from_is_err_and c.from_residual.result c.from_residual.ensures.1 in
    rw (p.1, p.2) (items_stop c.args.fonts.now c.args.first s (with_heap s (h c.items-list.new.nodes)) (failing why)
    (found_list_ends phase.Page (λ items. items.items) (Err why) c.items-list.result (items_answer s.heap c.args.fonts.now (Some c.args.first) V) s (h c.items-list.new.nodes) c.in_err-_items.ensures c.items-list.ensures.same c.items-list.ensures.answer))
