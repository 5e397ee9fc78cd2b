use Rattle.ntx_ligkern.proofs.WholePass.{check_stops, turns_end}
use Rattle.ntx_ligkern.proofs.ligature_pass.ligature.Goals as goal

pub returns-in-Err : goal.returns-in-Err
returns-in-Err g c =
    let h = g.N.Nodes.heap in
    record { traced = check_stops c.args.fonts.now c.args.head (h c.args.nodes.now) (h c.visit_list.new.nodes) c.in-Err.why c.visit_list.ensures.same c.in-Err.ensures.answer }

pub returns : goal.returns
returns g c =
    let h = g.N.Nodes.heap in
    record { traced = turns_end c.args.fonts.now c.args.head (h c.args.nodes.now) (h c.visit_list.new.nodes) (h c.ligature_list.new.nodes) c.ligature_list.result c.visit_list.ensures.same c.in-Ok.ensures.answer c.ligature_list.ensures }
