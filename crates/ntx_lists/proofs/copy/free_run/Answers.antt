use Rattle.std.proofs.Common.{rules}
use Rattle.ntx_lists.proofs.FreedRuns.{freed_on}
use Rattle.ntx_lists.proofs.Trees.{freed_less}
use Rattle.ntx_lists.proofs.copy.free_run.Goals as goal

pub loop-nodes-smaller : goal.loop-nodes-smaller
loop-nodes-smaller g c = freed_less (g.N.Nodes.heap c.loop-nodes.nodes) (g.N.Nodes.heap c.free_one.new.self) c.loop-nodes.n tt c.in-Ok.ensures.step

pub loop-nodes-preserved : goal.loop-nodes-preserved
loop-nodes-preserved g c = record {
  freed = freed_on (g.N.Nodes.heap c.args.nodes.now) (g.N.Nodes.heap c.loop-nodes.nodes) (g.N.Nodes.heap c.free_one.new.self) c.args.first c.loop-nodes.n tt c.loop-nodes.invariant.freed c.in-Ok.ensures.step;
  lawful = search rules;
}
