use Rattle.std.proofs.Common.{sym, arith}
use Rattle.ntx_tfm.specs.Layout.{code_count}
use Rattle.ntx_tfm.specs.Faults.{begin_at_steps}
use Rattle.ntx_tfm.proofs.EachLemmas.{each_none, each_more, each_fails, each_ends}
use Rattle.ntx_tfm.proofs.checks.begin_at_steps.Goals as goal

pub loop-k-init : goal.loop-k-init
loop-k-init c = each_none _

pub loop-k-preserved : goal.loop-k-preserved
loop-k-preserved c = each_more _ c.loop-k.k c.loop-k.invariant (grind arith)

pub returns-then-not-begins_at_step : goal.returns-then-not-begins_at_step
unfolding begin_at_steps
returns-then-not-begins_at_step c = sym (each_fails _ _ c.loop-k.k (omega arith) (grind arith))

pub returns : goal.returns
unfolding begin_at_steps
returns c = each_ends _ c.loop-k.k (code_count c.args.lengths) (omega arith) c.loop-k.invariant
