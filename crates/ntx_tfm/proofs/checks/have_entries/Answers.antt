use Rattle.std.proofs.Common.{sym, arith}
use Rattle.ntx_tfm.specs.Layout.{code_count}
use Rattle.ntx_tfm.specs.Faults.{have_entries}
use Rattle.ntx_tfm.proofs.EachLemmas.{each_none, each_more, each_fails, each_ends}
use Rattle.ntx_tfm.proofs.checks.have_entries.Goals as goal

pub loop-k-init : goal.loop-k-init
loop-k-init c = each_none _

pub loop-k-preserved : goal.loop-k-preserved
loop-k-preserved c = each_more _ c.loop-k.k c.loop-k.invariant (grind arith)

pub returns-then-not-has_entries : goal.returns-then-not-has_entries
unfolding have_entries
returns-then-not-has_entries c = sym (each_fails _ _ c.loop-k.k (omega arith) (grind arith))

pub returns : goal.returns
unfolding have_entries
returns c = each_ends _ c.loop-k.k (code_count c.args.lengths) (omega arith) c.loop-k.invariant
