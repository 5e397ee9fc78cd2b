use Rattle.std.proofs.Common.{sym, arith}
use Rattle.ntx_tfm.specs.Faults.{are_fix_words}
use Rattle.ntx_tfm.proofs.EachLemmas.{each_none, each_more, each_fails, each_ends}
use Rattle.ntx_tfm.proofs.checks.are_fix_words.Goals as goal

pub loop-k-init : goal.loop-k-init
loop-k-init c = each_none _

pub loop-k-preserved : goal.loop-k-preserved
loop-k-preserved c = each_more _ c.loop-k.k c.loop-k.invariant (grind arith)

pub returns-then-not-is_fix_word : goal.returns-then-not-is_fix_word
unfolding are_fix_words
returns-then-not-is_fix_word c = sym (each_fails _ _ c.loop-k.k (omega arith) (grind arith))

pub returns : goal.returns
unfolding are_fix_words
returns c = each_ends _ c.loop-k.k (c.args.count) (omega arith) c.loop-k.invariant
