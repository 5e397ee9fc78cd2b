use Rattle.ntx_lists.proofs.Relinks.{links_set}
use Rattle.ntx_lists.proofs.copy.set_links.Goals as goal

pub returns-clause-sets : goal.returns-clause-sets
returns-clause-sets g c =
    let h = g.N.Nodes.heap in
    links_set (h c.args.nodes.now) (h c.set_lists.new.nodes) (h c.set_link.new.nodes) c.args.n c.args.lists c.args.next c.set_lists.ensures.sets c.set_link.ensures.sets
