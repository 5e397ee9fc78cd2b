use Rattle.std.proofs.Common.{◌≡◌, to_z, of_z, w64, Err, arith}
use Rattle.std.proofs.lemmas.Int.{ints}
use Rattle.std.proofs.lemmas.Result.{err_from_is_err_and}
use Rattle.ntx_lines.proofs.Stacking.{after_so, box_refused, link_stops, space_stops}
use Rattle.ntx_lines.proofs.above.Above.with_box.Goals as goal

pub returns-in_err-fields-clause-traced : goal.returns-in_err-fields-clause-traced
returns-in_err-fields-clause-traced g c =
    let h = g.N.Nodes.heap in
    let a = c.args in
    let p = err_from_is_err_and c.from_residual.result c.from_residual.ensures.1 in
    rw (p.1, p.2) (box_refused a.params.now a.self a.n (h a.nodes.now) c.in_err-fields.field-0.0 c.in_err-fields.ensures.answer)

pub returns-in_err-follow-clause-traced : goal.returns-in_err-follow-clause-traced
returns-in_err-follow-clause-traced g c =
    let h = g.N.Nodes.heap in
    let a = c.args in
    let p = err_from_is_err_and c.from_residual-in_err-follow.result c.from_residual-in_err-follow.ensures.1 in
    rw (p.1, p.2) (link_stops a.params.now a.self a.n (h a.nodes.now) (h c.follow.new.nodes) c.in_ok-fields.fields c.in_err-follow.field-0.0 c.in_ok-fields.ensures.answer c.in_err-follow.ensures)

pub returns-in_err-make_interline_after-clause-traced : goal.returns-in_err-make_interline_after-clause-traced
returns-in_err-make_interline_after-clause-traced g c =
    let h = g.N.Nodes.heap in
    let a = c.args in
    let b = c.in_ok-fields.fields in
    let within = c.in_ok-fields.ensures.in_range in
    let x = to_z w64 (of_z w64 a.self.depth) in
    let y = to_z w64 (of_z w64 b.height) in
    let depth : x ≡ a.self.depth = omega (arith, ints, c.requires) in
    let height : y ≡ b.height = omega (arith, ints, within.0) in
    let p = err_from_is_err_and c.from_residual-in_err-make_interline_after.result c.from_residual-in_err-make_interline_after.ensures.1 in
    rw (p.1, p.2) (space_stops a.params.now a.self a.n (h a.nodes.now) (h c.follow.new.nodes) (h c.make_interline_after.new.nodes) c.in_ok-fields.fields _ c.in_err-make_interline_after.field-0.0 c.in_ok-fields.ensures.answer c.in_ok-follow.ensures (after_so (Err c.in_err-make_interline_after.field-0.0) a.params.now x y a.self.depth b.height a.self.last a.n (h c.follow.new.nodes) (h c.make_interline_after.new.nodes) depth height c.in_err-make_interline_after.ensures))
