use Rattle.std.proofs.Common.{◌++◌}
use Rattle.ntx_ligkern.specs.Kerns.{kerns_in}
use Rattle.ntx_ligkern.proofs.FoundKerns.{one_in, all_in}
use Rattle.ntx_ligkern.proofs.finding.take_in.Goals as goal

pub loop-i-preserved : goal.loop-i-preserved
loop-i-preserved g c =
    let heap = g.N.Nodes.heap c.args.nodes.now in
    let fonts = c.args.fonts.now in
    let names = c.args.names.now in
    record {
      kerns = one_in fonts heap names c.loop-i.i _ c.name_at.result c.loop-i.kerns.items c.take_after.new.kerns.items (c.args.kerns.now.items ++ kerns_in fonts heap names) c.loop-i-test.true c.name_at.ensures c.loop-i.invariant.kerns c.in_ok-take_after.ensures.kerns;
      wide = c.in_ok-take_after.ensures.wide;
    }

pub returns-clause-kerns : goal.returns-clause-kerns
returns-clause-kerns g c =
    let heap = g.N.Nodes.heap c.args.nodes.now in
    let fonts = c.args.fonts.now in
    let names = c.args.names.now in
    all_in fonts heap names c.loop-i.i c.loop-i.kerns.items (c.args.kerns.now.items ++ kerns_in fonts heap names) c.loop-i-test.false c.loop-i.invariant.kerns
