use Rattle.std.proofs.Common.{Ok, Err, refl, sym, subst}
use Rattle.std.proofs.lemmas.Result.{err_from_is_err_and}
use Rattle.ntx_num.specs.Trace.{stays, EndsAs}
use Rattle.ntx_num.proofs.Traces.{ends_there}
use Rattle.ntx_nodes.specs.Steps.{at}
use Rattle.ntx_nodes.specs.declared.fields.Contents.{Contents}
use Rattle.ntx_nodes.specs.declared.trouble.Trouble.{Trouble}
use Rattle.ntx_lines.specs.declared.line_end.Ended.{Ended}
use Rattle.ntx_lines.specs.LineEnd.{ended, ends_at}
use Rattle.ntx_lines.proofs.Begins.{begins_ends_at}
use Rattle.ntx_lines.proofs.Endings.{found_ends}
use Rattle.ntx_lines.proofs.line_end.end_line.Goals as goal

pub returns-in_err-contents : goal.returns-in_err-contents
returns-in_err-contents g c =
    let old = g.N.Nodes.heap c.args.nodes.now in
    let s = c.args.params.now in
    let n = c.in-Some.n in
    let found = at {A = Contents} old n (λ node. Ok node.fields.contents) in
    let e = c.in_err-contents.field-0.0 in
    let p = err_from_is_err_and c.from_residual.result c.from_residual.ensures.1 in
    rw (p.1, p.2) (subst (λ o. EndsAs {A = Ended} {E = Trouble} (Err e) old (ended s c.args.body o c.args.after old)) (sym c.in-Some.is)
    (ends_there (stays old found) old (ends_at s c.args.body n c.args.after) e (begins_ends_at s c.args.body n c.args.after) (found_ends (Err e) found old old c.in_err-contents.ensures refl)))
