use Rattle.std.proofs.Common.{ℕ, Ok, Err}
use Rattle.std.specs.Prelude.{ℤ}
use Rattle.std.proofs.lemmas.Result.{err_from_is_err_and}
use Rattle.ntx_lines.proofs.Boxes.{packed_so, pack_stops, name_stops, wear_ends}
use Rattle.ntx_lines.proofs.line_box.pack_line.Goals as goal

pub returns-in_err-n : goal.returns-in_err-n
returns-in_err-n g c =
    let h = g.N.Nodes.heap in
    let a = c.args in
    let e = c.in_err-n.field-0.0 in
    let p = err_from_is_err_and c.from_residual.result c.from_residual.ensures.1 in
    rw (p.1, p.2) (pack_stops a.fonts.now a.params.now a.head (h a.nodes.now) (h c.hpack.new.nodes) e
    (packed_so (Err e) a.fonts.now a.params.now a.head c.line_width.result (h a.nodes.now) (h c.hpack.new.nodes) c.line_width.ensures c.in_err-n.ensures))

pub returns-in_err-name_line : goal.returns-in_err-name_line
returns-in_err-name_line g c =
    let h = g.N.Nodes.heap in
    let a = c.args in
    let box : ℕ × ℤ = (c.in_ok-n.n, c.in_ok-n._badness) in
    let e = c.in_err-name_line.field-0.0 in
    let p = err_from_is_err_and c.from_residual-in_err-name_line.result c.from_residual-in_err-name_line.ensures.1 in
    rw (p.1, p.2) (name_stops a.fonts.now a.params.now a.head (h a.nodes.now) (h c.hpack.new.nodes) (h c.name_line.new.nodes) box e
    (packed_so (Ok box) a.fonts.now a.params.now a.head c.line_width.result (h a.nodes.now) (h c.hpack.new.nodes) c.line_width.ensures c.in_ok-n.ensures) c.in_err-name_line.ensures)

pub returns-in_err-wear_current : goal.returns-in_err-wear_current
returns-in_err-wear_current g c =
    let h = g.N.Nodes.heap in
    let a = c.args in
    let box : ℕ × ℤ = (c.in_ok-n.n, c.in_ok-n._badness) in
    let e = c.in_err-wear_current.field-0.0 in
    let p = err_from_is_err_and c.from_residual-in_err-wear_current.result c.from_residual-in_err-wear_current.ensures.1 in
    rw (p.1, p.2) (wear_ends a.fonts.now a.params.now a.head (h a.nodes.now) (h c.hpack.new.nodes) (h c.name_line.new.nodes) (h c.wear_current.new.self) box _ (Err e)
    (packed_so (Ok box) a.fonts.now a.params.now a.head c.line_width.result (h a.nodes.now) (h c.hpack.new.nodes) c.line_width.ensures c.in_ok-n.ensures) c.in_ok-name_line.ensures c.in_err-wear_current.ensures.step)

pub returns : goal.returns
returns g c =
    let h = g.N.Nodes.heap in
    let a = c.args in
    let box : ℕ × ℤ = (c.in_ok-n.n, c.in_ok-n._badness) in
    wear_ends a.fonts.now a.params.now a.head (h a.nodes.now) (h c.hpack.new.nodes) (h c.name_line.new.nodes) (h c.wear_current.new.self) box _ (Ok _)
    (packed_so (Ok box) a.fonts.now a.params.now a.head c.line_width.result (h a.nodes.now) (h c.hpack.new.nodes) c.line_width.ensures c.in_ok-n.ensures) c.in_ok-name_line.ensures c.in_ok-wear_current.ensures.step
