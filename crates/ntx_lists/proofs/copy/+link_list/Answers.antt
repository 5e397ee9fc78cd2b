use Rattle.std.proofs.Common.{rules, subst}
use Rattle.ntx_lists.proofs.Linking.{LinksOn, links_turn, links_ended, links_deep, not_found, links_missing}
use Rattle.ntx_lists.proofs.copy.+link_list.Goals as goal
use Rattle.ntx_lists.proofs.copy.+link_list.Goals.{then-depth-gt-MAX_DEPTH-via-then-depth-gt-MAX_DEPTH, then-depth-gt-MAX_DEPTH-via-else-depth-gt-MAX_DEPTH+then-is_err}

pub returns-then-depth-gt-MAX_DEPTH-clause-links : goal.returns-then-depth-gt-MAX_DEPTH-clause-links
returns-then-depth-gt-MAX_DEPTH-clause-links g t c =
    let h = g.N.Nodes.heap in
    elim c.then-depth-gt-MAX_DEPTH.branch [
      | then-depth-gt-MAX_DEPTH-via-then-depth-gt-MAX_DEPTH w ↦ links_deep (h c.args.nodes.now) (h c.loop-at.nodes) (h c.loop-at.nodes) c.args.head c.loop-at.at c.in-Some.n c.args.depth c.args.first c.loop-at.copy c.loop-at.copy c.loop-at.invariant.links c.in-Some.is w.if-depth-gt-MAX_DEPTH.true
      | then-depth-gt-MAX_DEPTH-via-else-depth-gt-MAX_DEPTH+then-is_err w ↦ links_missing (h c.args.nodes.now) (h c.loop-at.nodes) (h c.loop-at.nodes) c.args.head c.loop-at.at c.in-Some.n c.args.depth c.args.first c.loop-at.copy c.loop-at.copy c.loop-at.invariant.links c.in-Some.is (not_found (h c.loop-at.nodes) c.loop-at.copy w.kind_of.result w.if-is_err.ensures.value w.kind_of.ensures)
    ]

pub loop-at-preserved : goal.loop-at-preserved
loop-at-preserved g t c =
    let h = g.N.Nodes.heap in
    record {
      links = links_turn (h c.args.nodes.now) (h c.loop-at.nodes) (h c.link_list-second.new.nodes) (h c.link_list-third.new.nodes) (h c.link_list-after.new.nodes) (h c.set_links.new.nodes) c.args.head c.loop-at.at c.following-at.result c.link_to-in-Some-3.result c.in-Some.n c.args.depth c.args.first c.loop-at.copy
          c.link_list-second.result c.link_list-third.result c.link_list-after.result c.inner_lists-lists.result (record { first = c.link_to.result; second = c.link_to-in-Some.result; third = c.link_to-in-Some-2.result; kind = c.inner_lists-lists.result.kind }) c.loop-at.invariant.links c.in-Some.is c.inner_lists-lists.ensures c.following-at.ensures
          c.link_list-second.ensures.links c.link_list-third.ensures.links c.link_list-after.ensures.links (λ i. record { first = c.link_to.ensures i; second = c.link_to-in-Some.ensures i; third = c.link_to-in-Some-2.ensures i; kind = c.inner_lists-lists.result.kind }) c.link_to-in-Some-3.ensures c.set_links.ensures.sets;
      further = search rules;
      names = search rules;
    }

pub returns-clause-links : goal.returns-clause-links
returns-clause-links g t c =
    let h = g.N.Nodes.heap in
    links_ended (h c.args.nodes.now) (h c.loop-at.nodes) c.args.head c.args.depth c.args.first c.loop-at.copy (subst (λ o. LinksOn (h c.args.nodes.now) (h c.loop-at.nodes) c.args.head o c.args.depth c.args.first c.loop-at.copy) c.in_default.is c.loop-at.invariant.links)
