use Rattle.std.proofs.Common.{◌≡◌, ◌∷◌, [], take, map}
use Rattle.ntx_lualib.specs.Shown.{shown, joined}
use Rattle.ntx_lualib.specs.Output.{max_printed}
use Rattle.ntx_lualib.specs.inner.Lines.{bounded}
use Rattle.ntx_lualib.proofs.print.line_of.Given as goal

abbrev pub invariant-loop-i : goal.invariant-loop-i
invariant-loop-i l = l.line ≡ bounded max_printed (joined (9 ∷ []) (map (shown l.store) (take l.i l.args)))
