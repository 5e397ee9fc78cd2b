use Rattle.std.proofs.Common.{rules}
use Rattle.ntx_nodes.proofs.Writes.{next_write, write_on}
use Rattle.ntx_nodes.proofs.writing.write_all.Goals as goal

pub write-requires : goal.write-requires
write-requires g c = next_write c.args.n c.loop-f.f-index c.args.values.now (g.N.Nodes.heap c.loop-f.nodes) (g.N.Nodes.heap c.args.nodes.now) _ c.loop-f-test.true c.loop-f.invariant.left c.requires

pub loop-f-preserved : goal.loop-f-preserved
loop-f-preserved g c = record {
  left = write_on c.args.n c.loop-f.f-index c.args.values.now (g.N.Nodes.heap c.loop-f.nodes) (g.N.Nodes.heap c.write.new.nodes) (g.N.Nodes.heap c.args.nodes.now) _ c.loop-f-test.true c.loop-f.invariant.left c.write.ensures.step;
  visits = search rules;
  keeps = search rules;
}
