use Rattle.std.proofs.Common.{length}
use Rattle.ntx_values.specs.State.{AreOf}
use Rattle.ntx_lualib.specs.Formats.{formatted}
use Rattle.ntx_lualib.proofs.Pieces.{IsRead}
use Rattle.ntx_lualib.proofs.format.formatted.Given as goal

abbrev pub invariant-loop-rest : goal.invariant-loop-rest
invariant-loop-rest l = AreOf l.store l.left × IsRead l.line (formatted l.store l.format l.values) (formatted l.store l.rest l.left)

abbrev pub decreases-loop-rest : goal.decreases-loop-rest
decreases-loop-rest l = length l.rest
