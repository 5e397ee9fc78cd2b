use Rattle.ntx_ligkern.specs.Kerning.{kerned_list}
use Rattle.ntx_num.proofs.Traces.{traces}
use Rattle.ntx_ligkern.proofs.kern_pass.kern.Goals as goal

pub returns-clause-traced : goal.returns-clause-traced
returns-clause-traced g c =
    let h = g.N.Nodes.heap in
    traces c.kern_list.result (h c.kern_list.new.nodes) (kerned_list c.args.fonts.now c.args.head (h c.args.nodes.now)) c.kern_list.ensures.traced
