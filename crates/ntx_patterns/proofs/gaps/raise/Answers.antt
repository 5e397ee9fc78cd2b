use Rattle.std.proofs.Common.{get_or, ap, ◌∙◌, arith}
use Rattle.ntx_patterns.proofs.GapLemmas.{raised_at, raised_past}
use Rattle.ntx_patterns.proofs.gaps.raise.Goals as goal
use Rattle.ntx_patterns.proofs.gaps.raise.Goals.{then-i-values, else-i-values}

pub loop-i-preserved : goal.loop-i-preserved
loop-i-preserved c = λ gap inside. elim c.if-i-values.branch [
  | then-i-values w ↦ ap (λ values. get_or values gap 0) w.values-is
      ∙ raised_at c.args.values.now c.loop-i.values c.args.digits.now c.args.place c.loop-i.i w.max.result c.loop-i.invariant (omega arith) (omega arith) w.max.ensures gap inside
  | else-i-values w ↦ ap (λ values. get_or values gap 0) w.values-is
      ∙ raised_past c.args.values.now c.loop-i.values c.args.digits.now c.args.place c.loop-i.i c.loop-i.invariant (omega arith) gap inside
]
