use Rattle.std.proofs.Common.{◌≡◌, to_z, of_z, w64, Ok, Err, arith}
use Rattle.std.proofs.lemmas.Int.{ints}
use Rattle.std.proofs.lemmas.Result.{err_from_is_err_and}
use Rattle.ntx_lines.proofs.Stacking.{fields_so, glue_refused, glue_stops, glue_ends}
use Rattle.ntx_lines.proofs.above.make_interline.Goals as goal

pub returns-in_err-fields : goal.returns-in_err-fields
returns-in_err-fields g c =
    let h = g.N.Nodes.heap in
    let a = c.args in
    let x = to_z w64 (of_z w64 a.depth) in
    let y = to_z w64 (of_z w64 a.height) in
    let depth : x ≡ a.depth = omega (arith, ints) in
    let height : y ≡ a.height = omega (arith, ints) in
    let p = err_from_is_err_and c.from_residual.result c.from_residual.ensures.1 in
    rw (p.1, p.2) (glue_refused a.params.now a.depth a.height a.last a.n (h a.nodes.now) c.in_err-fields.field-0.0 (fields_so (Err c.in_err-fields.field-0.0) a.params.now x y a.depth a.height depth height c.in_err-fields.ensures.answer))

pub make_before-requires : goal.make_before-requires
make_before-requires g c = c.in_ok-fields.ensures.makable (g.N.Nodes.heap c.args.nodes.now)

pub returns-in_err-glue : goal.returns-in_err-glue
returns-in_err-glue g c =
    let h = g.N.Nodes.heap in
    let a = c.args in
    let x = to_z w64 (of_z w64 a.depth) in
    let y = to_z w64 (of_z w64 a.height) in
    let depth : x ≡ a.depth = omega (arith, ints) in
    let height : y ≡ a.height = omega (arith, ints) in
    let p = err_from_is_err_and c.from_residual-in_err-glue.result c.from_residual-in_err-glue.ensures.1 in
    rw (p.1, p.2) (glue_stops a.params.now a.depth a.height a.last a.n (h a.nodes.now) (h c.make_before.new.nodes) c.in_ok-fields.fields c.in_err-glue.field-0.0 (fields_so (Ok c.in_ok-fields.fields) a.params.now x y a.depth a.height depth height c.in_ok-fields.ensures.answer) c.in_err-glue.ensures)

pub returns : goal.returns
returns g c =
    let h = g.N.Nodes.heap in
    let a = c.args in
    let x = to_z w64 (of_z w64 a.depth) in
    let y = to_z w64 (of_z w64 a.height) in
    let depth : x ≡ a.depth = omega (arith, ints) in
    let height : y ≡ a.height = omega (arith, ints) in
    glue_ends a.params.now a.depth a.height a.last a.n (h a.nodes.now) (h c.make_before.new.nodes) (h c.follow.new.nodes) c.in_ok-fields.fields c.in_ok-glue.glue c.follow.result (fields_so (Ok c.in_ok-fields.fields) a.params.now x y a.depth a.height depth height c.in_ok-fields.ensures.answer) c.in_ok-glue.ensures c.follow.ensures
