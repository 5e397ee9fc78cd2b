use Rattle.std.proofs.Common.{◌≡◌, replicate, None}
use Rattle.ntx_dvi.proofs.fonts.Fonts.new.Given as goal

abbrev pub invariant-loop-number : goal.invariant-loop-number
invariant-loop-number l = l.definitions.items ≡ replicate l._number None
