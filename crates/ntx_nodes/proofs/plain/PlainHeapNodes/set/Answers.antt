use Rattle.std.proofs.Common.{◌≡◌, Ok, Err, refl, sym, ◌∙◌, ap, subst}
use Rattle.std.specs.Prelude.{Result}
use Rattle.ntx_nodes.specs.Heap.{Heap}
use Rattle.ntx_nodes.specs.Steps.{set_step, changed}
use Rattle.ntx_nodes.specs.declared.trouble.Trouble.{Trouble}
use Rattle.ntx_nodes.proofs.StepLaws.{set_done, set_refused, set_step-lawful}
use Rattle.ntx_nodes.proofs.plain.PlainHeapNodes.set.Goals as goal

pub returns-in-Err-clause-step : goal.returns-in-Err-clause-step
returns-in-Err-clause-step c =
    let heap : Heap = record { next = c.self.inside.next; nodes = c.self.inside.table.nodes; current = c.self.inside.current } in
    let same : heap ≡ c.args.self.now.heap = ap (λ k. k.heap) c.self.view_is in
    let refused : changed heap c.in_ok-fields.fields c.args.f c.args.v ≡ Err c.in-Err.why =
    subst (λ h. changed h c.in_ok-fields.fields c.args.f c.args.v ≡ Err c.in-Err.why) (sym same) (sym c.changed.ensures ∙ c.in-Err.is) in (
      subst (λ h. ◌≡◌ {A = Result (Unit {0} × Heap) Trouble} (set_step c.args.n c.args.f c.args.v h) (Err c.in-Err.why)) same
          (set_refused heap c.args.n c.args.f c.args.v c.in_ok-fields.fields c.in-Err.why (sym c.fields.ensures ∙ c.in_ok-fields.was) refused),
      refl,
    )

pub invariant_of-self : goal.invariant_of-self
invariant_of-self c =
    let heap : Heap = record { next = c.self.inside.next; nodes = c.self.inside.table.nodes; current = c.self.inside.current } in
    let new : Heap = record { next = c.self.inside.next; nodes = c.put_fields.new.self.nodes; current = c.self.inside.current } in
    let same : heap ≡ c.args.self.now.heap = ap (λ k. k.heap) c.self.view_is in
    let done : changed heap c.in_ok-fields.fields c.args.f c.args.v ≡ Ok c.in-Ok.written =
    subst (λ h. changed h c.in_ok-fields.fields c.args.f c.args.v ≡ Ok c.in-Ok.written) (sym same) (sym c.changed.ensures ∙ c.in-Ok.is) in
    set_step-lawful heap c.args.n c.args.f c.args.v (tt, new) c.self.invariant
    (set_done heap new c.args.n c.args.f c.args.v c.in_ok-fields.fields c.in-Ok.written (sym c.fields.ensures ∙ c.in_ok-fields.was) done c.put_fields.ensures.nodes refl refl)

pub returns-in-Ok-clause-step : goal.returns-in-Ok-clause-step
returns-in-Ok-clause-step c =
    let heap : Heap = record { next = c.self.inside.next; nodes = c.self.inside.table.nodes; current = c.self.inside.current } in
    let new : Heap = record { next = c.self.inside.next; nodes = c.put_fields.new.self.nodes; current = c.self.inside.current } in
    let same : heap ≡ c.args.self.now.heap = ap (λ k. k.heap) c.self.view_is in
    let done : changed heap c.in_ok-fields.fields c.args.f c.args.v ≡ Ok c.in-Ok.written =
    subst (λ h. changed h c.in_ok-fields.fields c.args.f c.args.v ≡ Ok c.in-Ok.written) (sym same) (sym c.changed.ensures ∙ c.in-Ok.is) in
    subst (λ h. ◌≡◌ {A = Result (Unit {0} × Heap) Trouble} (set_step c.args.n c.args.f c.args.v h) (Ok (tt, new))) same
    (set_done heap new c.args.n c.args.f c.args.v c.in_ok-fields.fields c.in-Ok.written (sym c.fields.ensures ∙ c.in_ok-fields.was) done c.put_fields.ensures.nodes refl refl)
