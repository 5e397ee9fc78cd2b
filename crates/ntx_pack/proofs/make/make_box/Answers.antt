-- proofs/make/make_box/Answers.antt
use Rattle.std.proofs.Common.{subst, sym}
use Rattle.ntx_num.specs.Answer.{Steps}
use Rattle.ntx_nodes.specs.declared.fields.Fields.{Fields}
use Rattle.ntx_nodes.specs.Writing.{AreMakable, make_filled_step}
use Rattle.ntx_pack.proofs.BoxLemmas.{box_makable}
use Rattle.ntx_pack.proofs.make.make_box.Goals as goal

pub make_filled-requires : goal.make_filled-requires
make_filled-requires g c =
    let heap = g.N.Nodes.heap c.args.nodes.now in
    subst (AreMakable heap) (sym c.node_fields.ensures) (box_makable heap c.args.direction c.args.head c.args.packed.now c.requires.makable c.requires.live)

pub returns : goal.returns
returns g c =
    let heap = g.N.Nodes.heap c.args.nodes.now in
    subst (λ (fields : Fields). Steps c.make_filled.result heap (g.N.Nodes.heap c.make_filled.new.nodes) (make_filled_step fields heap)) c.node_fields.ensures c.make_filled.ensures.step
