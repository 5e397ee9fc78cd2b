use Rattle.std.proofs.Common.{arith}
use Rattle.ntx_lists.proofs.Trees.{free_turn, free_refused, freed_less}
use Rattle.ntx_lists.proofs.free.+free_list.Goals as goal

pub loop-at-preserved : goal.loop-at-preserved
loop-at-preserved g t c = record {
  frees = free_turn (g.N.Nodes.heap c.args.nodes.now) (g.N.Nodes.heap c.loop-at.nodes) (g.N.Nodes.heap c.free_one.new.self) (g.N.Nodes.heap c.free_list.new.nodes) (g.N.Nodes.heap c.free_list-in-Some.new.nodes) (g.N.Nodes.heap c.free_list-in-Some-2.new.nodes) c.args.head c.loop-at.at c.following-at.result c.in-Some.n c.args.depth c.inner_lists-lists.result tt
      c.loop-at.invariant.frees c.in-Some.is c.inner_lists-lists.ensures c.following-at.ensures c.in-Ok.ensures.step c.free_list.ensures.frees c.free_list-in-Some.ensures.frees c.free_list-in-Some-2.ensures.frees;
  fewer =
      let less = freed_less (g.N.Nodes.heap c.loop-at.nodes) (g.N.Nodes.heap c.free_one.new.self) c.in-Some.n tt c.in-Ok.ensures.step in
      let a = c.free_list.ensures.fewer in
      let b = c.free_list-in-Some.ensures.fewer in
      let d = c.free_list-in-Some-2.ensures.fewer in
      let e = c.loop-at.invariant.fewer in
      omega arith;
}

pub loop-at-smaller : goal.loop-at-smaller
loop-at-smaller g t c =
    let less = freed_less (g.N.Nodes.heap c.loop-at.nodes) (g.N.Nodes.heap c.free_one.new.self) c.in-Some.n tt c.in-Ok.ensures.step in
    let a = c.free_list.ensures.fewer in
    let b = c.free_list-in-Some.ensures.fewer in
    let d = c.free_list-in-Some-2.ensures.fewer in
    omega arith

pub returns-in-Err-clause-frees : goal.returns-in-Err-clause-frees
returns-in-Err-clause-frees g t c =
    free_refused (g.N.Nodes.heap c.args.nodes.now) (g.N.Nodes.heap c.loop-at.nodes) (g.N.Nodes.heap c.free_one.new.self) c.args.head c.loop-at.at c.in-Some.n c.args.depth _ c.loop-at.invariant.frees c.in-Some.is c.in-Err.ensures.step.0
