use Rattle.ntx_ligkern.specs.Kerns.{kerns_of}
use Rattle.ntx_ligkern.proofs.FoundKerns.{one_from, all_from}
use Rattle.ntx_ligkern.proofs.finding.kerns_of.Goals as goal

pub loop-i-preserved : goal.loop-i-preserved
loop-i-preserved g c =
    let heap = g.N.Nodes.heap c.args.nodes.now in
    let fonts = c.args.fonts.now in
    let names = c.args.names.now in
    record {
      kerns = one_from fonts heap names c.loop-i.i _ c.loop-i.before c.name_at.result c.loop-i.kerns.items c.take_at.new.kerns.items (kerns_of fonts heap names) c.loop-i-test.true c.name_at.ensures c.loop-i.invariant.kerns c.in_ok-take_at.ensures.kerns;
      wide = c.in_ok-take_at.ensures.wide;
    }

pub returns-clause-kerns : goal.returns-clause-kerns
returns-clause-kerns g c =
    let heap = g.N.Nodes.heap c.args.nodes.now in
    all_from c.args.fonts.now heap c.args.names.now c.loop-i.i c.loop-i.before c.loop-i.kerns.items (kerns_of c.args.fonts.now heap c.args.names.now) c.loop-i-test.false c.loop-i.invariant.kerns
