use Rattle.std.proofs.lemmas.Result.{err_from_is_err_and}
use Rattle.ntx_lists.proofs.MadeNodes.{link_refused, link_made, can_link}
use Rattle.ntx_lists.proofs.make.make_linked.Goals as goal

pub returns-in_err-new-clause-traced : goal.returns-in_err-new-clause-traced
returns-in_err-new-clause-traced g c =
    let h = g.N.Nodes.heap in
    let p = err_from_is_err_and c.from_residual.result c.from_residual.ensures.1 in
    rw (p.1, p.2) (link_refused (h c.args.nodes.now) (h c.make_like.new.nodes) c.args.fields c.args.like c.args.n c.args.f _ c.lawful.ensures.lawful c.requires.like c.in_err-new.ensures.step)

pub write-requires : goal.write-requires
write-requires g c =
    let h = g.N.Nodes.heap in
    (can_link (h c.args.nodes.now) (h c.make_like.new.nodes) c.args.fields c.args.like c.args.n c.in_ok-new.new c.args.f c.lawful.ensures.lawful c.requires.like c.requires.linkable c.in_ok-new.ensures.step).ok

pub returns-clause-traced : goal.returns-clause-traced
returns-clause-traced g c =
    let h = g.N.Nodes.heap in
    link_made (h c.args.nodes.now) (h c.make_like.new.nodes) (h c.write.new.nodes) c.args.fields c.args.like c.args.n c.in_ok-new.new c.args.f c.lawful.ensures.lawful c.requires.like c.in_ok-new.ensures.step c.write.ensures.step

pub returns-clause-keep : goal.returns-clause-keep
returns-clause-keep g c =
    let h = g.N.Nodes.heap in
    (can_link (h c.args.nodes.now) (h c.make_like.new.nodes) c.args.fields c.args.like c.args.n c.in_ok-new.new c.args.f c.lawful.ensures.lawful c.requires.like c.requires.linkable c.in_ok-new.ensures.step).keep (h c.write.new.nodes) c.write.ensures.step

pub returns-clause-made : goal.returns-clause-made
returns-clause-made g c =
    let h = g.N.Nodes.heap in
    (can_link (h c.args.nodes.now) (h c.make_like.new.nodes) c.args.fields c.args.like c.args.n c.in_ok-new.new c.args.f c.lawful.ensures.lawful c.requires.like c.requires.linkable c.in_ok-new.ensures.step).made (h c.write.new.nodes) c.write.ensures.step
