use Rattle.std.proofs.Common.{◌∙◌}
use Rattle.ntx_hyph.proofs.Words.{point_read}
use Rattle.ntx_hyph.proofs.reading.Reading.end_word.Goals as goal

pub loop-i-preserved : goal.loop-i-preserved
loop-i-preserved c = record {
  word = c.in_ok-take_point.ensures.word ∙ c.loop-i.invariant.word;
  gaps = point_read c.args.self.now.word.items c.loop-i.self.word.items c.args.self.now.gaps.items c.loop-i.self.gaps.items c.take_point.new.self.gaps.items c.deref-i-items.result.now c.loop-i.i-index _ c.loop-i-test.true
      c.loop-i.invariant.word c.loop-i.invariant.gaps c.in_ok-take_point.ensures.gaps;
}
