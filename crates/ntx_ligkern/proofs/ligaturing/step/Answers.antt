use Rattle.std.proofs.Common.{ℕ, List, reverse, slice_get, ◌∙◌, ap}
use Rattle.std.proofs.lemmas.Result.{err_from_is_err_and}
use Rattle.ntx_ligkern.specs.inner.Cursors.{spot_of}
use Rattle.ntx_ligkern.proofs.Stepping.{step_full}
use Rattle.ntx_ligkern.proofs.ligaturing.step.Goals as goal

pub returns-in_err-go_over : goal.returns-in_err-go_over
returns-in_err-go_over g c =
    let h = g.N.Nodes.heap in
    let items = c.args.ahead.now.items in
    let p = err_from_is_err_and c.from_residual-in_err-go_over.result c.from_residual-in_err-go_over.ensures.1 in
    rw (p.1, p.2) (step_full (spot_of c.args.cursor items) c.args.lig c.args.right c.in_ok-holder.holder (reverse items) c.nearest.result (h c.args.nodes.now) (h c.join.new.nodes) c.if-cursor-ge-MOST_STEPS.false
    (c.nearest.ensures ∙ ap (λ (xs : List ℕ). slice_get (reverse xs) 0) c.deref.ensures.value) c.in_ok-holder.ensures)
