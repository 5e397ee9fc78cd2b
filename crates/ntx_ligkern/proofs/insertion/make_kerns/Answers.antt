use Rattle.std.proofs.lemmas.Result.{err_from_is_err_and}
use Rattle.ntx_ligkern.proofs.Kernings.{next_kern, next_stops, placed_later}
use Rattle.ntx_ligkern.proofs.insertion.make_kerns.Goals as goal

pub returns-in_err-make_kern-clause-traced : goal.returns-in_err-make_kern-clause-traced
returns-in_err-make_kern-clause-traced g c =
    let h = g.N.Nodes.heap in
    let p = err_from_is_err_and c.from_residual.result c.from_residual.ensures.1 in
    rw (p.1, p.2) (next_stops c.args.kerns.now (h c.args.nodes.now) (h c.loop-k.nodes) (h c.make_kern.new.nodes) c.loop-k.k-index _ _ c.loop-k-test.true c.loop-k.invariant.goes c.in_err-make_kern.ensures.traced)

pub loop-k-preserved : goal.loop-k-preserved
loop-k-preserved g c =
    let h = g.N.Nodes.heap in
    record {
      goes = next_kern c.args.kerns.now (h c.args.nodes.now) (h c.loop-k.nodes) (h c.make_kern.new.nodes) c.loop-k.k-index _ c.loop-k-test.true c.loop-k.invariant.goes c.in_ok-make_kern.ensures.traced;
      placed = placed_later (h c.loop-k.nodes) (h c.make_kern.new.nodes) c.args.kerns.now c.in_ok-make_kern.ensures.keep c.loop-k.invariant.placed;
    }
