use Rattle.std.proofs.lemmas.Result.{err_from_is_err_and}
use Rattle.std.proofs.Common.{ℕ, Err, subst}
use Rattle.std.specs.Prelude.{Option}
use Rattle.ntx_num.specs.Trace.{EndsAs}
use Rattle.ntx_num.proofs.Traces.{passes_first}
use Rattle.ntx_ligkern.specs.Ligaturing.{drawn_after}
use Rattle.ntx_ligkern.proofs.DiscEnds.{begins_after, after_copy, after_stops, after_ends}
use Rattle.ntx_ligkern.proofs.discs.draw_after.Goals as goal

pub returns-in_err-end : goal.returns-in_err-end
returns-in_err-end g c =
    let h = g.N.Nodes.heap in
    let p = err_from_is_err_and c.from_residual.result c.from_residual.ensures.1 in
    rw (p.1, p.2) (passes_first (drawn_after c.args.disc c.args.last c.args.n c.args.after (h c.args.nodes.now)) (h c.args.nodes.now) (begins_after c.args.disc c.args.last c.args.n c.args.after (h c.args.nodes.now)))

pub returns-in_err-copy_to_post : goal.returns-in_err-copy_to_post
returns-in_err-copy_to_post g c =
    let h = g.N.Nodes.heap in
    let p = err_from_is_err_and c.from_residual-in_err-copy_to_post.result c.from_residual-in_err-copy_to_post.ensures.1 in
    rw (p.1, p.2) (subst (λ (o : Option ℕ). EndsAs {A = Unit {0}} (Err c.in_err-copy_to_post.field-0.0) (h c.copy_to_post.new.nodes) (after_copy c.args.disc c.args.last c.args.n c.args.after o (h c.args.nodes.now))) c.in_ok-end.ensures (after_stops c.args.disc c.args.last c.args.n c.args.after c.in_ok-end.end (h c.args.nodes.now) (h c.copy_to_post.new.nodes) c.in_err-copy_to_post.field-0.0 c.in_err-copy_to_post.ensures))

pub returns : goal.returns
returns g c =
    let h = g.N.Nodes.heap in
    subst (λ (o : Option ℕ). EndsAs c.move_back.result (h c.move_back.new.nodes) (after_copy c.args.disc c.args.last c.args.n c.args.after o (h c.args.nodes.now))) c.in_ok-end.ensures (after_ends c.args.disc c.args.last c.args.n c.args.after c.in_ok-end.end (h c.args.nodes.now) (h c.copy_to_post.new.nodes) (h c.move_back.new.nodes) c.move_back.result c.in_ok-copy_to_post.ensures c.move_back.ensures)
