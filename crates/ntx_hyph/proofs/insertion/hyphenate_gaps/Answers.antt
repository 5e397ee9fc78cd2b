use Rattle.std.proofs.lemmas.Result.{err_from_is_err_and}
use Rattle.ntx_hyph.proofs.Hyphens.{next_gap, gap_stops, sound_later}
use Rattle.ntx_hyph.proofs.insertion.hyphenate_gaps.Goals as goal

pub returns-in_err-hyphenate_gap-clause-traced : goal.returns-in_err-hyphenate_gap-clause-traced
returns-in_err-hyphenate_gap-clause-traced g c =
    let h = g.N.Nodes.heap in
    let p = err_from_is_err_and c.from_residual.result c.from_residual.ensures.1 in
    rw (p.1, p.2) (gap_stops c.args.char c.args.gaps.now (h c.args.nodes.now) (h c.loop-gap.nodes) (h c.hyphenate_gap.new.nodes) c.loop-gap.gap-index _ _ c.loop-gap-test.true c.loop-gap.invariant.goes c.in_err-hyphenate_gap.ensures.traced)

pub loop-gap-preserved : goal.loop-gap-preserved
loop-gap-preserved g c =
    let h = g.N.Nodes.heap in
    record {
      goes = next_gap c.args.char c.args.gaps.now (h c.args.nodes.now) (h c.loop-gap.nodes) (h c.hyphenate_gap.new.nodes) c.loop-gap.gap-index _ c.loop-gap-test.true c.loop-gap.invariant.goes c.in_ok-hyphenate_gap.ensures.traced;
      sound = sound_later (h c.loop-gap.nodes) (h c.hyphenate_gap.new.nodes) c.args.gaps.now c.in_ok-hyphenate_gap.ensures.keep c.loop-gap.invariant.sound;
    }
