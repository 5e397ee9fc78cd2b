use Rattle.std.proofs.lemmas.Result.{err_from_is_err_and}
use Rattle.ntx_lines.proofs.Stacking.{left_stops, boxing_stops, boxed_ends}
use Rattle.ntx_lines.proofs.paragraph.push_line.Goals as goal

pub returns-in_err-first-clause-traced : goal.returns-in_err-first-clause-traced
returns-in_err-first-clause-traced g c =
    let h = g.N.Nodes.heap in
    let a = c.args in
    let p = err_from_is_err_and c.from_residual.result c.from_residual.ensures.1 in
    rw (p.1, p.2) (left_stops a.fonts.now a.params.now a.above a.head (h a.nodes.now) (h c.make_leftskip.new.nodes) c.in_err-first.field-0.0 c.in_err-first.ensures)

pub returns-in_err-n-clause-traced : goal.returns-in_err-n-clause-traced
returns-in_err-n-clause-traced g c =
    let h = g.N.Nodes.heap in
    let a = c.args in
    let p = err_from_is_err_and c.from_residual-in_err-n.result c.from_residual-in_err-n.ensures.1 in
    rw (p.1, p.2) (boxing_stops a.fonts.now a.params.now a.above a.head c.in_ok-first.first (h a.nodes.now) (h c.make_leftskip.new.nodes) (h c.pack_line.new.nodes) c.in_err-n.field-0.0 c.in_ok-first.ensures c.in_err-n.ensures)

pub returns-clause-traced : goal.returns-clause-traced
returns-clause-traced g c =
    let h = g.N.Nodes.heap in
    let a = c.args in
    boxed_ends a.fonts.now a.params.now a.above a.head c.in_ok-first.first (h a.nodes.now) (h c.make_leftskip.new.nodes) (h c.pack_line.new.nodes) (h c.with_box.new.nodes) c.in_ok-n.n c.with_box.result c.in_ok-first.ensures c.in_ok-n.ensures c.with_box.ensures.traced
