use Rattle.ntx_doc.proofs.DigitsLemmas.{reads_more}
use Rattle.ntx_doc.proofs.text.value.Goals as goal

pub loop-digit-preserved : goal.loop-digit-preserved
loop-digit-preserved c =
    rw c.from.ensures (reads_more c.args.digits.now c.loop-digit.digit-index c.loop-digit.value c.requires.digits c.loop-digit-test.true c.loop-digit.invariant)
