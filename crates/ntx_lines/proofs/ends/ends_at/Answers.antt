use Rattle.std.proofs.Common.{Err}
use Rattle.std.proofs.lemmas.Result.{err_from_is_err_and}
use Rattle.ntx_nodes.specs.Walk.{flat_walk}
use Rattle.ntx_lines.specs.Ends.{ends_of}
use Rattle.ntx_lines.proofs.Endings.{answered}
use Rattle.ntx_lines.proofs.ends.ends_at.Goals as goal

pub returns-in_err-names : goal.returns-in_err-names
returns-in_err-names g c =
    let h = g.N.Nodes.heap in
    let old = h c.args.nodes.now in
    let p = err_from_is_err_and c.from_residual.result c.from_residual.ensures.1 in
    rw (p.1, p.2) (answered ends_of (Err c.in_err-names.field-0.0) (flat_walk old c.args.head) old (h c.names_reached.new.nodes) c.in_err-names.ensures.answer c.names_reached.ensures.same)
