use Rattle.std.proofs.Common.{arith}
use Rattle.ntx_dvi.proofs.FontsLemmas.{none_defined}
use Rattle.ntx_dvi.proofs.fonts.Fonts.new.Goals as goal

pub invariant_of-result : goal.invariant_of-result
invariant_of-result c = none_defined _ _ c.loop-number.invariant (omega arith) (omega arith)
