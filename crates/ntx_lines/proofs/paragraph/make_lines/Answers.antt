use Rattle.std.proofs.Common.{◌+◌, ◌-◌, length, get_or, Ok, Err, sym, subst, arith}
use Rattle.std.specs.Prelude.{slice_get}
use Rattle.std.proofs.lemmas.Int.{ints}
use Rattle.std.proofs.lemmas.List.{drop_all}
use Rattle.std.proofs.lemmas.Result.{err_from_is_err_and}
use Rattle.ntx_num.specs.Dimension.{IsDimension}
use Rattle.ntx_num.specs.Trace.{EndsAs}
use Rattle.ntx_nodes.specs.declared.trouble.Trouble.{Trouble}
use Rattle.ntx_lines.specs.declared.above.Above.{Above}
use Rattle.ntx_lines.specs.declared.ends.Ends.{Ends}
use Rattle.ntx_lines.specs.Lines.{line_made}
use Rattle.ntx_lines.specs.Parts.{Part}
use Rattle.ntx_lines.proofs.AllLines.{going_begun, next_line, part_so, line_stops, lines_done}
use Rattle.ntx_lines.proofs.paragraph.make_lines.Goals as goal

pub returns-in_err-longer : goal.returns-in_err-longer
returns-in_err-longer g c =
    let h = g.N.Nodes.heap in
    let a = c.args in
    let e = c.in_err-longer.field-0.0 in
    let new = h c.make_line.new.nodes in
    let p = err_from_is_err_and c.from_residual.result c.from_residual.ensures.1 in
    rw (p.1, p.2) (line_stops a.fonts.now a.params.now a.items.now a.names.now a.places.now (h a.nodes.now) c.loop-i.above c.loop-i.front c.loop-i.from c.loop-i.i 0 (h c.loop-i.nodes) new e c.loop-i-test.true c.loop-i.invariant.going
    (subst (λ (x : Part). EndsAs {A = Above × Ends} {E = Trouble} (Err e) new (line_made a.fonts.now a.params.now c.loop-i.above c.loop-i.front x ((length a.places.now - c.loop-i.i) - 1) (h c.loop-i.nodes))) (part_so a.items.now a.names.now c.loop-i.from (get_or a.places.now c.loop-i.i 0) c.place_after.result (slice_get a.places.now (c.loop-i.i + 1)) _ c.new-part.ensures c.place_after.ensures) c.in_err-longer.ensures.traced))

pub loop-i-init : goal.loop-i-init
loop-i-init g c =
    let h = g.N.Nodes.heap in
    let a = c.args in
    record {
      going = going_begun a.fonts.now a.params.now a.items.now a.names.now a.places.now (h a.nodes.now) c.nothing-above.result c.none-front.result c.nothing-above.ensures c.none-front.ensures;
      depth = subst (λ (x : Above). IsDimension x.depth) (sym c.nothing-above.ensures) (omega (arith, ints), omega (arith, ints));
    }

pub loop-i-preserved : goal.loop-i-preserved
loop-i-preserved g c =
    let h = g.N.Nodes.heap in
    let a = c.args in
    let l = c.loop-i in
    let new = h c.make_line.new.nodes in
    let done : Above × Ends = (c.in_ok-longer.longer, c.in_ok-longer.next) in
    record {
      going = next_line a.fonts.now a.params.now a.items.now a.names.now a.places.now (h a.nodes.now) l.above l.front l.from l.i 0 (h l.nodes) new done c.loop-i-test.true l.invariant.going
          (subst (λ (x : Part). EndsAs {A = Above × Ends} {E = Trouble} (Ok done) new (line_made a.fonts.now a.params.now l.above l.front x ((length a.places.now - l.i) - 1) (h l.nodes))) (part_so a.items.now a.names.now c.loop-i.from (get_or a.places.now c.loop-i.i 0) c.place_after.result (slice_get a.places.now (c.loop-i.i + 1)) _ c.new-part.ensures c.place_after.ensures) c.in_ok-longer.ensures.traced);
      depth = c.in_ok-longer.ensures.depth;
    }

pub returns : goal.returns
returns g c =
    let h = g.N.Nodes.heap in
    let a = c.args in
    let l = c.loop-i in
    lines_done a.fonts.now a.params.now a.items.now a.names.now a.places.now (h a.nodes.now) l.above l.front l.from l.i (h l.nodes) (drop_all l.i a.places.now (omega arith)) l.invariant.going
