use Rattle.std.proofs.lemmas.Result.{err_from_is_err_and}
use Rattle.ntx_num.proofs.Traces.{ends_there}
use Rattle.ntx_lines.specs.Ends.{with_last}
use Rattle.ntx_lines.specs.Making.{sets}
use Rattle.ntx_lines.specs.LineEnd.{whole_line}
use Rattle.ntx_lines.proofs.Begins.{wholly, begins_given}
use Rattle.ntx_lines.proofs.line_end.end_with.Goals as goal

pub returns-in_err-set_all : goal.returns-in_err-set_all
returns-in_err-set_all g c =
    let h = g.N.Nodes.heap in
    let a = c.args in
    let p = err_from_is_err_and c.from_residual.result c.from_residual.ensures.1 in
    rw (p.1, p.2) (ends_there (sets a.n a.values.now (h a.nodes.now)) (h c.set_all.new.nodes) (wholly a.body a.n a.has_rightskip) c.in_err-set_all.field-0.0 (λ _ new. begins_given (whole_line (with_last a.body a.n) a.has_rightskip) new) c.in_err-set_all.ensures)
