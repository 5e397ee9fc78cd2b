-- proofs/view/names_along/Answers.antt
-- No walk reaches more nodes than may be live.
use Rattle.std.proofs.Common.{[]}
use Rattle.ntx_nodes.specs.declared.kind.ListKind.TheVariants.{H}
use Rattle.ntx_nodes.specs.declared.kind.Way.TheVariants.{Flat}
use Rattle.ntx_view.proofs.Counts.{sound_few, sound_live}
use Rattle.ntx_view.proofs.view.names_along.Goals as goal

pub returns-in-Ok-clause-few : goal.returns-in-Ok-clause-few
returns-in-Ok-clause-few g c =
    let heap = g.N.Nodes.heap c.args.nodes.now in
    sound_few heap Flat c.args.to c.in-Ok.names.items c.lawful.ensures.lawful (c.walks_are_sound.ensures heap Flat [] c.args.to 0 H c.in-Ok.names.items c.in-Ok.ensures.answer)

pub returns-in-Ok-clause-live : goal.returns-in-Ok-clause-live
returns-in-Ok-clause-live g c =
    let heap = g.N.Nodes.heap c.args.nodes.now in
    sound_live heap Flat c.args.to c.in-Ok.names.items (c.walks_are_sound.ensures heap Flat [] c.args.to 0 H c.in-Ok.names.items c.in-Ok.ensures.answer)
