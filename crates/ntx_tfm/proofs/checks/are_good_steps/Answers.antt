use Rattle.std.proofs.Common.{sym, arith}
use Rattle.ntx_tfm.specs.Faults.{are_good_steps}
use Rattle.ntx_tfm.proofs.EachLemmas.{each_none, each_more, each_fails, each_ends}
use Rattle.ntx_tfm.proofs.checks.are_good_steps.Goals as goal

pub loop-i-init : goal.loop-i-init
loop-i-init c = each_none _

pub loop-i-preserved : goal.loop-i-preserved
loop-i-preserved c = each_more _ c.loop-i.i c.loop-i.invariant (grind arith)

pub returns-then-not-is_good_step : goal.returns-then-not-is_good_step
unfolding are_good_steps
returns-then-not-is_good_step c = sym (each_fails _ _ c.loop-i.i (omega arith) (grind arith))

pub returns : goal.returns
unfolding are_good_steps
returns c = each_ends _ c.loop-i.i (c.args.lengths.nl) (omega arith) c.loop-i.invariant
