use Rattle.std.proofs.lemmas.Result.{err_from_is_err_and}
use Rattle.ntx_lines.proofs.Whole.{items_stop, names_stop}
use Rattle.ntx_lines.proofs.paragraph.make_paragraph.Goals as goal

pub returns-in_err-items : goal.returns-in_err-items
returns-in_err-items g c =
    let h = g.N.Nodes.heap in
    let a = c.args in
    let p = err_from_is_err_and c.from_residual.result c.from_residual.ensures.1 in
    rw (p.1, p.2) (items_stop a.fonts.now a.params.now a.head a.places.now (h a.nodes.now) (h c.items.new.nodes) c.in_err-items.field-0.0 c.items.ensures.same c.in_err-items.ensures.answer)

pub returns-in_err-names : goal.returns-in_err-names
returns-in_err-names g c =
    let h = g.N.Nodes.heap in
    let a = c.args in
    let p = err_from_is_err_and c.from_residual-in_err-names.result c.from_residual-in_err-names.ensures.1 in
    rw (p.1, p.2) (names_stop a.fonts.now a.params.now a.head a.places.now (h a.nodes.now) (h c.items.new.nodes) (h c.names_reached.new.nodes) c.in_ok-items.items.items c.in_err-names.field-0.0 c.items.ensures.same c.in_ok-items.ensures.answer c.names_reached.ensures.same c.in_err-names.ensures.answer)
