use Rattle.ntx_lists.proofs.Linking.{rest_linked}
use Rattle.ntx_lists.proofs.copy.link_rest.Goals as goal

pub returns : goal.returns
returns g c =
    let h = g.N.Nodes.heap in
    record {
      links = rest_linked (h c.args.nodes.now) (h c.link_list-second.new.nodes) (h c.link_list-third.new.nodes) (h c.link_list-after.new.nodes) (h c.set_links.new.nodes) (h c.link_list.new.nodes) c.args.lists (record { first = c.link_to.result; second = c.link_to-2.result; third = c.link_to-3.result; kind = c.args.lists.kind }) c.args.next c.link_to-4.result c.args.first
          c.link_list-second.result c.link_list-third.result c.link_list-after.result c.link_list.result c.link_list-second.ensures.links c.link_list-third.ensures.links c.link_list-after.ensures.links
          (λ i. record { first = c.link_to.ensures i; second = c.link_to-2.ensures i; third = c.link_to-3.ensures i; kind = c.args.lists.kind }) c.link_to-4.ensures c.set_links.ensures.sets c.link_list.ensures.links;
    }
