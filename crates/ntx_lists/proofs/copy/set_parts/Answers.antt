use Rattle.ntx_lists.proofs.Relinks.{parts_set}
use Rattle.ntx_lists.proofs.copy.set_parts.Goals as goal

pub returns-clause-sets : goal.returns-clause-sets
returns-clause-sets g c =
    let h = g.N.Nodes.heap in
    parts_set (h c.args.nodes.now) (h c.set_link.new.nodes) (h c.set_link-2.new.nodes) (h c.set_link-3.new.nodes) c.args.n c.args.lists c.set_link.ensures.sets c.set_link-2.ensures.sets c.set_link-3.ensures.sets
